-- The number by which a text is refused.
use Rattle.std.specs.Prelude.{ℕ}
use Rattle.hexadecimal.specs.declared.text.TextFault.{TextFault}
use Rattle.hexadecimal.specs.declared.text.TextFault.TheVariants.{NotHexadecimal}

abbrev pub text_number : TextFault → ℕ
text_number NotHexadecimal = 18
