-- What is left to tell of an input, from piece to piece, and the calls that are still to come.
use Rattle.std.proofs.Common.{◌≡◌, ℕ, suc, ◌<◌, List, [], ◌∷◌, ◌++◌, length, get_or, take, drop, Some, None, Err, Option, Result, IfSome, sym, refl, ap, ◌∙◌, subst, append_assoc, append-nil, rules}
use Rattle.std.proofs.Math.Seq.{drop-cons}
use Rattle.std.proofs.lemmas.List.{take-append-drop}
use Rattle.std.specs.List.{FoldsTo}
use Rattle.std.specs.Io.KnownBytes.{Consumes, IsAtEnd}
use Rattle.trace.specs.Steps.{State, beginning, unless, byte_step, step, ending, after_all, news, heard, fault_in, concluded}
use Rattle.trace.specs.Reading.{Reading, read_all}
use Rattle.trace.specs.declared.fault.Fault.{Fault}
use Rattle.trace.specs.declared.frame.Frame.{Frame}
use Rattle.trace.proofs.Whole.{going, stays, err_stops, whole}

-- where the bytes of an input are known
pub where_known : {X : Type 0} (o : Option X) (Q : X → Type 0) → ((x : X) → o ≡ Some x → Q x) → IfSome o Q
where_known None Q h = search rules
where_known (Some x) Q h = h x refl

-- bytes after bytes
after_append : (s : State) (xs ys : List ℕ) → after_all s (xs ++ ys) ≡ after_all (after_all s xs) ys
after_append s [] ys = refl
after_append s (x ∷ xs) ys = after_append (step s x).after xs ys

heard_append : (s : State) (xs ys : List ℕ) → heard s (xs ++ ys) ≡ heard s xs ++ heard (after_all s xs) ys
heard_append s [] ys = refl
heard_append s (x ∷ xs) ys =
    ap (λ l. news (step s x).answer ++ l) (heard_append (step s x).after xs ys)
    ∙ sym (append_assoc (news (step s x).answer) (heard (step s x).after xs) (heard (after_all (step s x).after xs) ys))

folds_append : {P : Type 0} (T : P → Frame → P → Type 0) (p q r : P) (fs gs : List Frame) → FoldsTo T p fs q → FoldsTo T q gs r → FoldsTo T p (fs ++ gs) r
folds_append T p q r [] gs h k = subst (λ o. FoldsTo T o gs r) (sym h) k
folds_append T p q r (f ∷ fs) gs h k = (h.0, h.1, folds_append T h.0 q r fs gs h.2 k)

-- what bytes tell, in two parts
abbrev before : List Frame → Reading → Reading
before fs t = record { frames = fs ++ t.frames; fault = t.fault }

going_parts : (s : State) (xs ys : List ℕ) → going s (xs ++ ys) ≡ before (heard s xs) (going (after_all s xs) ys)
going_parts s xs ys =
    ap (λ t. concluded (heard s (xs ++ ys)) (ending t)) (after_append s xs ys)
    ∙ ap (λ l. concluded l (ending (after_all (after_all s xs) ys))) (heard_append s xs ys)
    ∙ ap (λ l. record { frames = l; fault = fault_in (ending (after_all (after_all s xs) ys)) }) (append_assoc (heard s xs) (heard (after_all s xs) ys) (news (ending (after_all (after_all s xs) ys))))

-- known bytes were the first of those that were left
consumed : (old new : Option (List ℕ)) (xs : List ℕ) (left : List ℕ) → old ≡ Some left → Consumes old new xs → (more : List ℕ) × (new ≡ Some more) × (left ≡ xs ++ more)
consumed None new xs left p h = search rules
consumed (Some ys) None xs left p h = search rules
consumed (Some ys) (Some more) xs left p h = (more, refl, search rules)

none_left : (known : Option (List ℕ)) (left : List ℕ) → known ≡ Some left → IsAtEnd known → left ≡ []
none_left None left p h = search rules
none_left (Some xs) left p h = search rules

-- a piece at one of its bytes
pub parted : (xs : List ℕ) (i : ℕ) → i < length xs → xs ≡ take i xs ++ get_or xs i 0 ∷ drop (suc i) xs
parted xs i h = sym (take-append-drop i xs) ∙ ap (λ l. take i xs ++ l) (drop-cons xs i 0 h)

-- a reader that a fault has stopped stays as it is
still : (s : State) (e : Fault) (bs : List ℕ) → s.fault ≡ Some e → (after_all s bs).fault ≡ Some e
still s e [] f = f
still s e (b ∷ bs) f = ap (λ o. (after_all (unless o s (byte_step s b)).after bs).fault) f ∙ still s e bs f

silent : (s : State) (e : Fault) (bs : List ℕ) → s.fault ≡ Some e → heard s bs ≡ []
silent s e [] f = refl
silent s e (b ∷ bs) f = ap (λ o. news (unless o s (byte_step s b)).answer ++ heard (unless o s (byte_step s b)).after bs) f ∙ silent s e bs f

module _ {P : Type 0} (T : P → Frame → P → Type 0) (start : P) (s₀ : State) where
  -- the calls have come so far, and the reader too, over the bytes xs
  pub record Come (now : P) (s : State) (xs : List ℕ) : Type 0 where
    pub calls : FoldsTo T start (heard s₀ xs) now
    pub reader : s ≡ after_all s₀ xs

  pub comes_on : (now next : P) (s s' : State) (b : ℕ) (r : Result (Option Frame) Fault) (xs ys : List ℕ) → Come now s xs → ys ≡ xs ++ b ∷ [] → s' ≡ (step s b).after → (step s b).answer ≡ r → FoldsTo T now (news r) next → Come next s' ys
  comes_on now next s s' b r xs ys h more after a k =
      let at : step s b ≡ step (after_all s₀ xs) b = ap (λ t. step t b) h.reader in
      let news_are : news r ≡ heard (after_all s₀ xs) (b ∷ []) = ap news (sym a ∙ ap (λ t. t.answer) at) ∙ sym (append-nil (news (step (after_all s₀ xs) b).answer)) in
      record {
        calls = subst (λ fs. FoldsTo T start fs next) (ap (λ l. heard s₀ xs ++ l) news_are ∙ sym (heard_append s₀ xs (b ∷ [])) ∙ ap (heard s₀) (sym more)) (folds_append T start now next (heard s₀ xs) (news r) h.calls k);
        reader = after ∙ ap (λ t. t.after) at ∙ sym (after_append s₀ xs (b ∷ [])) ∙ ap (after_all s₀) (sym more);
      }

  -- a fault at one of the bytes: the rest tells nothing
  pub comes_to_fault : (now : P) (s : State) (b : ℕ) (e : Fault) (xs rest ys : List ℕ) → Come now s xs → ys ≡ xs ++ b ∷ rest → (step s b).answer ≡ Err e → FoldsTo T start (heard s₀ ys) now × ((after_all s₀ ys).fault ≡ Some e)
  comes_to_fault now s b e xs rest ys h more a =
      let at : (step (after_all s₀ xs) b).answer ≡ Err e = ap (λ t. (step t b).answer) (sym h.reader) ∙ a in
      let stopped : (step (after_all s₀ xs) b).after.fault ≡ Some e = err_stops (after_all s₀ xs) b e at in
      let quiet : heard (after_all s₀ xs) (b ∷ rest) ≡ [] = ap (λ r. news r ++ heard (step (after_all s₀ xs) b).after rest) at ∙ silent (step (after_all s₀ xs) b).after e rest stopped in (
        subst (λ fs. FoldsTo T start fs now) (sym (ap (heard s₀) more ∙ heard_append s₀ xs (b ∷ rest) ∙ ap (λ l. heard s₀ xs ++ l) quiet ∙ append-nil (heard s₀ xs))) h.calls,
        ap (λ l. (after_all s₀ l).fault) more ∙ ap (λ t. t.fault) (after_append s₀ xs (b ∷ rest)) ∙ still (step (after_all s₀ xs) b).after e rest stopped,
      )

  -- all of the bytes
  pub comes_to_end : (now : P) (s : State) (xs ys : List ℕ) → Come now s xs → xs ≡ ys → FoldsTo T start (heard s₀ ys) now × (s ≡ after_all s₀ ys)
  comes_to_end now s xs ys h all = (subst (λ l. FoldsTo T start (heard s₀ l) now) all h.calls, h.reader ∙ ap (after_all s₀) all)

module _ {P : Type 0} (T : P → Frame → P → Type 0) (start : P) (all : List ℕ) where
  -- what is told of the bytes that are left: its fault is that of all, and calls with its frames end what calls with all frames end
  pub record Leads (now : P) (t : Reading) : Type 0 where
    pub fault : t.fault ≡ (read_all all).fault
    pub calls : (last : P) → FoldsTo T now t.frames last → FoldsTo T start (read_all all).frames last

  -- the bytes that a reader has left, where they are known, lead there
  abbrev pub Left : P → State → Option (List ℕ) → Type 0
  Left now s known = (left : List ℕ) × (known ≡ Some left) × Leads now (going s left)

  -- all is told, and the calls have come so far
  abbrev pub Told : Option Fault → P → Type 0
  Told fault last = (fault ≡ (read_all all).fault) × FoldsTo T start (read_all all).frames last

  pub at_first : (s : State) (known : Option (List ℕ)) → s ≡ beginning → known ≡ Some all → Left start s known
  at_first s known p k =
      (all, k, subst (Leads start) (whole all ∙ ap (λ s. going s all) (sym p)) (record { fault = refl; calls = λ last h. h }))

  -- a piece, and the calls with its frames
  pub goes_on : (now next : P) (s s' : State) (xs : List ℕ) (old new : Option (List ℕ)) → Left now s old → Consumes old new xs → s' ≡ after_all s xs → FoldsTo T now (heard s xs) next → Left next s' new
  goes_on now next s s' xs old new h takes after k =
      let more = consumed old new xs h.0 h.1 takes in
      let leads = subst (Leads now) (ap (going s) more.2 ∙ going_parts s xs more.0 ∙ ap (λ t. before (heard s xs) (going t more.0)) (sym after)) h.2 in
      (more.0, more.1, record { fault = leads.fault; calls = λ last l. leads.calls last (folds_append T now next last (heard s xs) (going s' more.0).frames k l) })

  -- a piece with a fault, which ends the reading
  pub stops : (now next : P) (s : State) (e : Fault) (xs : List ℕ) (old new : Option (List ℕ)) → Left now s old → Consumes old new xs → (after_all s xs).fault ≡ Some e → FoldsTo T now (heard s xs) next → Told (Some e) next
  stops now next s e xs old new h takes f k =
      let more = consumed old new xs h.0 h.1 takes in
      let leads = subst (Leads now) (ap (going s) more.2 ∙ going_parts s xs more.0 ∙ ap (before (heard s xs)) (stays (after_all s xs) e more.0 f)) h.2 in
      (leads.fault, leads.calls next (folds_append T now next next (heard s xs) [] k refl))

  -- no byte is left
  pub ends : (now last : P) (s : State) (old new : Option (List ℕ)) → Left now s old → Consumes old new [] → IsAtEnd new → FoldsTo T now (news (ending s)) last → Told (fault_in (ending s)) last
  ends now last s old new h takes at_end k =
      let more = consumed old new [] h.0 h.1 takes in
      let leads = subst (Leads now) (ap (going s) (more.2 ∙ none_left new more.0 more.1 at_end)) h.2 in
      (leads.fault, leads.calls last k)
