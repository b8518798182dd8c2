-- What a reader answers on its way through an input, byte by byte, is what the input tells as a whole.
use Rattle.std.proofs.Common.{◌≡◌, ℕ, ◌<◌, ◌≤◌, Bool, true, false, cond, eqb, ltb, List, [], ◌∷◌, ◌++◌, length, Some, None, Ok, Err, Option, Result, sym, refl, ap, ◌∙◌, append_assoc, append-nil, arith, length-append, ltb-false, ne_eqb, eqb-true, rules}
use Rattle.hexadecimal.specs.declared.text.TextFault.TheVariants.{NotHexadecimal}
use Rattle.hexadecimal.proofs.Decodes.{too_long}
use Rattle.trace.specs.Lines.{given, line_frame}
use Rattle.trace.specs.Reading.{Reading, onto, lines, placed, next_line, faulty, told_first, told, read_all}
use Rattle.trace.specs.Steps.{State, Step, beginning, stopped, settled, line_end, kept, unless, byte_step, step, end_step, ending, after_all, news, heard, fault_in, concluded}
use Rattle.trace.specs.declared.fault.Cause.{Cause}
use Rattle.trace.specs.declared.fault.Cause.TheVariants as cause
use Rattle.trace.specs.declared.fault.FrameFault.TheVariants.{WrongPlace}
use Rattle.trace.specs.declared.fault.Fault.{Fault}
use Rattle.trace.specs.declared.frame.Frame.{Frame}

-- text without a line feed
abbrev Plain : List ℕ → Type 0
Plain [] = Unit {0}
Plain (c ∷ cs) = (eqb c 10 ≡ false) × Plain cs

plain_more : (cs : List ℕ) (c : ℕ) → Plain cs → eqb c 10 ≡ false → Plain (cs ++ c ∷ [])
plain_more [] c p e = (e, tt)
plain_more (d ∷ cs) c p e = (p.0, plain_more cs c p.1 e)

-- its lines, alone, before a line feed, and before one character more
one_line : (c : ℕ) (cs : List ℕ) → Plain (c ∷ cs) → lines (c ∷ cs) ≡ (c ∷ cs) ∷ []
one_line c [] p = simp p.0
one_line c (d ∷ cs) p = simp p.0 (ap (onto c) (one_line d cs p.1))

line_before : (cs rest : List ℕ) → Plain cs → lines (cs ++ 10 ∷ rest) ≡ cs ∷ lines rest
line_before [] rest p = refl
line_before (c ∷ cs) rest p = simp p.0 (ap (onto c) (line_before cs rest p.1))

-- a line that begins so
pub record Begins (cs : List ℕ) (text : List ℕ) : Type 0 where
  pub line : List ℕ
  pub others : List (List ℕ)
  pub splits : lines text ≡ line ∷ others
  pub long : length cs ≤ length line

begins_onto : (c : ℕ) (text : List ℕ) → eqb c 10 ≡ false → Begins (c ∷ []) (c ∷ text)
begins_onto c text e = go (lines text) refl where
  go : (ls : List (List ℕ)) → lines text ≡ ls → Begins (c ∷ []) (c ∷ text)
  go [] p = record { line = c ∷ []; others = []; splits = simp (e, p); long = omega arith }
  go (l ∷ ls) p = record { line = c ∷ l; others = ls; splits = simp (e, p); long = omega arith }

begins : (cs : List ℕ) (c : ℕ) (rest : List ℕ) → Plain cs → eqb c 10 ≡ false → Begins (cs ++ c ∷ []) (cs ++ c ∷ rest)
begins [] c rest p e = begins_onto c rest e
begins (d ∷ cs) c rest p e =
    let more = begins cs c rest p.1 e in
    record {
      line = d ∷ more.line;
      others = more.others;
      splits = simp p.0 (ap (onto d) more.splits);
      long = omega (arith, more.long);
    }

-- a line of over 34 characters is no text
overlong : (l : List ℕ) → 34 < length l → line_frame l ≡ Err (cause.Text NotHexadecimal)
overlong l h = ap given (too_long 17 l (omega arith))

-- what is told from a state on, and from a step on
abbrev pub going : State → List ℕ → Reading
going s bs = concluded (heard s bs) (ending (after_all s bs))

abbrev pub going_on : Step → List ℕ → Reading
going_on st bs = concluded (news st.answer ++ heard st.after bs) (ending (after_all st.after bs))

-- once stopped, it answers the fault
pub stays : (s : State) (e : Fault) (bs : List ℕ) → s.fault ≡ Some e → going s bs ≡ record { frames = []; fault = Some e }
stays s e [] f = ap (λ o. concluded [] (unless o s (end_step s)).answer) f
stays s e (b ∷ bs) f = ap (λ o. going_on (unless o s (byte_step s b)) bs) f ∙ stays s e bs f

stopped_tells : (s : State) (e : Fault) (bs : List ℕ) → going_on (stopped s e) bs ≡ record { frames = []; fault = Some e }
stopped_tells s e bs = stays (stopped s e).after e bs refl

-- a fault that is answered stops the reading
err_settled : (s : State) (r : Result Frame Cause) (e : Fault) → (settled s r).answer ≡ Err e → (settled s r).after.fault ≡ Some e
err_settled s (Ok f) e a = search rules
err_settled s (Err c) e a = ap fault_in a

err_kept : (s : State) (b : ℕ) (t : Bool) (e : Fault) → (cond t (record { after = record { line = s.line; started = s.started; rest = s.rest ++ b ∷ []; fault = s.fault }; answer = Ok None }) (stopped s (faulty (cause.Text NotHexadecimal) s.line))).answer ≡ Err e → (cond t (record { after = record { line = s.line; started = s.started; rest = s.rest ++ b ∷ []; fault = s.fault }; answer = Ok None }) (stopped s (faulty (cause.Text NotHexadecimal) s.line))).after.fault ≡ Some e
err_kept s b true e a = search rules
err_kept s b false e a = ap fault_in a

err_byte : (s : State) (b : ℕ) (t : Bool) (e : Fault) → (cond t (line_end s) (kept s b)).answer ≡ Err e → (cond t (line_end s) (kept s b)).after.fault ≡ Some e
err_byte s b true e a = err_settled s (placed s.started (line_frame s.rest)) e a
err_byte s b false e a = err_kept s b (ltb (length s.rest) 34) e a

err_unless : (o : Option Fault) (s : State) (b : ℕ) (e : Fault) → s.fault ≡ o → (unless o s (byte_step s b)).answer ≡ Err e → (unless o s (byte_step s b)).after.fault ≡ Some e
err_unless None s b e f a = err_byte s b (eqb b 10) e a
err_unless (Some d) s b e f a = f ∙ ap fault_in a

pub err_stops : (s : State) (b : ℕ) (e : Fault) → (step s b).answer ≡ Err e → (step s b).after.fault ≡ Some e
err_stops s b e a = err_unless s.fault s b e refl a

-- a reader that no fault has stopped
abbrev running : ℕ → Bool → List ℕ → State
running n started rest = record { line = n; started = started; rest = rest; fault = None }

-- the input ends, between two lines and within one
between : (started : Bool) (e : Fault) → concluded [] (cond started (Ok None) (Err e)) ≡ record { frames = []; fault = cond started None (Some e) }
between true e = refl
between false e = refl

within_last : (s : State) (r : Result Frame Cause) → told_first s.line r (record { frames = []; fault = None }) ≡ concluded [] (settled s r).answer
within_last s (Ok f) = refl
within_last s (Err c) = refl

at_end : (n : ℕ) (started : Bool) (rest : List ℕ) → Plain rest → told n started (lines (rest ++ [])) ≡ going (running n started rest) []
at_end n started [] p = sym (between started (faulty (cause.Frame WrongPlace) n))
at_end n started (c ∷ cs) p =
    ap (told n started) (ap lines (append-nil (c ∷ cs)) ∙ one_line c cs p)
    ∙ within_last (running n started (c ∷ cs)) (placed started (line_frame (c ∷ cs)))
    ∙ ap (λ t. concluded [] (cond t (record { after = running n started (c ∷ cs); answer = cond started (Ok None) (Err (faulty (cause.Frame WrongPlace) n)) }) (line_end (running n started (c ∷ cs)))).answer)
    (sym (ne_eqb (length (c ∷ cs)) 0 (λ z. omega arith)))

-- what the bytes that follow tell, whatever the line that is begun
abbrev Follows : List ℕ → Type 0
Follows bs = (n : ℕ) (started : Bool) (rest : List ℕ) → Plain rest → told n started (lines (rest ++ bs)) ≡ going (running n started rest) bs

after_line : (s : State) (r : Result Frame Cause) (bs : List ℕ) → s.fault ≡ None → Follows bs → told_first s.line r (told (next_line s.line) true (lines bs)) ≡ going_on (settled s r) bs
after_line s (Ok f) bs free next =
    ap (λ t. record { frames = f ∷ t.frames; fault = t.fault }) (next (next_line s.line) true [] tt)
    ∙ ap (λ o. going_on (record { after = record { line = next_line s.line; started = true; rest = []; fault = o }; answer = Ok (Some f) }) bs) (sym free)
after_line s (Err c) bs free next = sym (stopped_tells s (faulty c s.line) bs)

too_many : (n : ℕ) (started : Bool) (rest : List ℕ) (b : ℕ) (bs : List ℕ) → Plain rest → eqb b 10 ≡ false → 34 ≤ length rest → told n started (lines (rest ++ b ∷ bs)) ≡ record { frames = []; fault = Some (faulty (cause.Text NotHexadecimal) n) }
too_many n started rest b bs p e h =
    let first = begins rest b bs p e in
    let size : 34 < length first.line = omega (arith, first.long, length-append rest (b ∷ [])) in
    ap (told n started) first.splits ∙ ap (λ r. told_first n (placed started r) (told (next_line n) true first.others)) (overlong first.line size)

within : (n : ℕ) (started : Bool) (rest : List ℕ) (b : ℕ) (bs : List ℕ) (t : Bool) → ltb (length rest) 34 ≡ t → Plain rest → eqb b 10 ≡ false → Follows bs → told n started (lines (rest ++ b ∷ bs)) ≡ going_on (cond t (record { after = running n started (rest ++ b ∷ []); answer = Ok None }) (stopped (running n started rest) (faulty (cause.Text NotHexadecimal) n))) bs
within n started rest b bs true t p e next =
    ap (λ text. told n started (lines text)) (sym (append_assoc rest (b ∷ []) bs)) ∙ next n started (rest ++ b ∷ []) (plain_more rest b p e)
within n started rest b bs false t p e next =
    too_many n started rest b bs p e (ltb-false (length rest) 34 t) ∙ sym (stopped_tells (running n started rest) (faulty (cause.Text NotHexadecimal) n) bs)

one_byte : (n : ℕ) (started : Bool) (rest : List ℕ) (b : ℕ) (bs : List ℕ) (t : Bool) → eqb b 10 ≡ t → Plain rest → Follows bs → told n started (lines (rest ++ b ∷ bs)) ≡ going_on (cond t (line_end (running n started rest)) (kept (running n started rest) b)) bs
one_byte n started rest b bs true t p next =
    ap (λ c. told n started (lines (rest ++ c ∷ bs))) (eqb-true b 10 t) ∙ ap (told n started) (line_before rest bs p)
    ∙ after_line (running n started rest) (placed started (line_frame rest)) bs refl next
one_byte n started rest b bs false t p next = within n started rest b bs (ltb (length rest) 34) refl p t next

follows : (bs : List ℕ) → Follows bs
follows [] n started rest p = at_end n started rest p
follows (b ∷ bs) n started rest p = one_byte n started rest b bs (eqb b 10) refl p (follows bs)

-- the answers on the way and the last one are what the input tells
pub whole : (input : List ℕ) → read_all input ≡ concluded (heard beginning input) (ending (after_all beginning input))
whole input = follows input 1 false [] tt

pub whole_from : (s : State) (r : Result (Option Frame) Fault) → r ≡ ending s → (input : List ℕ) → s ≡ after_all beginning input → read_all input ≡ concluded (heard beginning input) r
whole_from s r e input here = whole input ∙ ap (concluded (heard beginning input)) (sym (e ∙ ap ending here))
