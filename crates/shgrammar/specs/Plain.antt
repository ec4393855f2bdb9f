-- The bytes that are ordinary in a mode. The code passes many of them at once.
use Rattle.std.specs.Prelude.{◌≡◌, ℕ, ◌<◌, ◌≤◌, ◌==◌, Bool, true, ◌||◌, not, List, Some}
use Rattle.shgrammar.specs.Characters.{quotation_mark, number_sign, dollar_sign, apostrophe, left_parenthesis, right_parenthesis, backslash, grave_accent, right_brace}
use Rattle.shgrammar.specs.declared.mode.Mode.{Mode}
use Rattle.shgrammar.specs.declared.mode.Mode.TheVariants.{Plain, Double, Brace, DoubleBrace, Arith}
use Rattle.shgrammar.specs.Classes.{is_digit}
use Rattle.shgrammar.specs.Bytes.{ends}
use Rattle.shgrammar.specs.Standing.{raw_in}

-- what is special in a mode, besides what is so in every one
abbrev pub is_special_in : Mode → ℕ → Bool
is_special_in Plain b = ends (Some b) || b == apostrophe || b == quotation_mark
is_special_in Double b = b == quotation_mark
is_special_in Brace b = b == right_brace || b == apostrophe || b == quotation_mark
is_special_in DoubleBrace b = b == right_brace || b == quotation_mark
is_special_in Arith b = b == right_parenthesis || b == left_parenthesis

-- no backslash or backquote, no `$`, and nothing special in the mode
abbrev pub is_plain : Mode → ℕ → Bool
is_plain mode b = not (b == backslash || b == grave_accent || b == dollar_sign || is_special_in mode b)

-- the number that stands for a mode in the code's table
abbrev pub alone : Mode → ℕ
alone Plain = 1
alone Double = 2
alone Brace = 4
alone DoubleBrace = 8
alone Arith = 16

-- from p up to q stand such bytes
abbrev pub ArePlain : Mode → List ℕ → ℕ → ℕ → Type 0
ArePlain mode T p q = (k : ℕ) → p ≤ k → k < q → raw_in (is_plain mode) T k ≡ true

-- no byte before which a word ends, no `#`, and no digit: only a word begins with it
abbrev pub begins_a_word : ℕ → Bool
begins_a_word b = not (ends (Some b) || b == number_sign || is_digit b)
