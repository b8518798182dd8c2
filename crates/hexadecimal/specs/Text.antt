-- Hexadecimal text: two digits of either case to a byte, the high digit first.
use Rattle.std.specs.Prelude.{◌≡◌, ℕ, ◌+◌, ◌-◌, ◌*◌, ◌/◌, ◌%◌, ◌<◌, ◌≤◌, Bool, cond, ◌&&◌, ◌⊎◌, List, [], ◌∷◌, length, Some, None, Option, nat_le, nat_lt}

-- whether c is one of the characters from a to b
abbrev pub within : ℕ → ℕ → ℕ → Bool
within a b c = nat_le a c && nat_le c b

-- the value of a digit: '0' to '9', 'A' to 'F' or 'a' to 'f'
abbrev pub digit_value : ℕ → Option ℕ
digit_value c =
    cond (within 48 57 c) (Some (c - 48))
    (cond (within 65 70 c) (Some (c - 55))
    (cond (within 97 102 c) (Some (c - 87)) None))

-- the byte of two digits' values
abbrev pub byte_of : Option ℕ → Option ℕ → Option ℕ
byte_of None l = None
byte_of (Some h) None = None
byte_of (Some h) (Some l) = Some (h * 16 + l)

-- the byte that two digits spell
abbrev pub pair_value : ℕ → ℕ → Option ℕ
pair_value h l = byte_of (digit_value h) (digit_value l)

-- a byte put before the bytes that follow, if there are both
abbrev pub put : Option ℕ → Option (List ℕ) → Option (List ℕ)
put None rest = None
put (Some b) None = None
put (Some b) (Some bs) = Some (b ∷ bs)

-- the bytes of a text, if it is digits throughout and even in length
abbrev pub decoded : List ℕ → Option (List ℕ)
decoded [] = Some []
decoded (h ∷ []) = None
decoded (h ∷ l ∷ ds) = put (pair_value h l) (decoded ds)

-- the bytes of a line that has at least one digit and at most 2 × n
abbrev pub line_bytes : ℕ → List ℕ → Option (List ℕ)
line_bytes n ds = cond (nat_lt 0 (length ds) && nat_le (length ds) (2 * n)) (decoded ds) None

-- the character of the digit v, in upper and in lower case
abbrev pub upper : ℕ → ℕ
upper v = cond (nat_lt v 10) (48 + v) (55 + v)

abbrev pub lower : ℕ → ℕ
lower v = cond (nat_lt v 10) (48 + v) (87 + v)

-- c is the digit v, in either case
pub record Digit (c v : ℕ) : Type 0 where
  pub small : v < 16
  pub either : (c ≡ upper v) ⊎ (c ≡ lower v)

-- the text is that of the bytes: two digits of either case to a byte, the high digit first
abbrev pub Spells : List ℕ → List ℕ → Type 0
Spells [] [] = Unit {0}
Spells [] (b ∷ bs) = ⊥
Spells (h ∷ []) bs = ⊥
Spells (h ∷ l ∷ ds) [] = ⊥
Spells (h ∷ l ∷ ds) (b ∷ bs) = Digit h (b / 16) × Digit l (b % 16) × Spells ds bs

-- the text is that of no list of one to n bytes
abbrev pub Unspelled : ℕ → List ℕ → Type 0
Unspelled n ds = (bs : List ℕ) → 0 < length bs → length bs ≤ n → Spells ds bs → ⊥
