-- Classes of bytes (XCU 2.2, 2.3, 2.5.2, 2.10.1), and the sets of bytes that the code names.
use Rattle.std.specs.Prelude.{ℕ, Bool, ◌==◌, ◌&&◌, ◌||◌, nat_le}
use Rattle.shgrammar.specs.Characters.{tab, space, exclamation_mark, number_sign, dollar_sign, ampersand, left_parenthesis, right_parenthesis, asterisk, hyphen, semicolon, less_than_sign, greater_than_sign, question_mark, commercial_at, underscore, vertical_line}
use Rattle.shgrammar.specs.declared.class.Class.{Class}
use Rattle.shgrammar.specs.declared.class.Class.TheVariants.{Blank, Digit, Name, Tab}

-- space and tab
abbrev pub is_blank : ℕ → Bool
is_blank b = b == space || b == tab

-- the bytes with which operators begin: & | ; < > ( )
abbrev pub is_operator : ℕ → Bool
is_operator b = b == ampersand || b == vertical_line || b == semicolon || b == less_than_sign
    || b == greater_than_sign || b == left_parenthesis || b == right_parenthesis

abbrev pub is_digit : ℕ → Bool
is_digit b = nat_le 48 b && nat_le b 57

-- a letter of ASCII or an underscore
abbrev pub is_letter : ℕ → Bool
is_letter b = (nat_le 97 b && nat_le b 122) || (nat_le 65 b && nat_le b 90) || b == underscore

-- a letter, a digit or an underscore, as in a NAME (XBD 3.235)
abbrev pub is_name : ℕ → Bool
is_name b = is_letter b || is_digit b

-- the special parameters: @ * # ? - $ ! (XCU 2.5.2; of the digits 0 is one)
abbrev pub is_special : ℕ → Bool
is_special c = c == commercial_at || c == asterisk || c == number_sign || c == question_mark || c == hyphen
    || c == dollar_sign || c == exclamation_mark

abbrev pub in_class : Class → ℕ → Bool
in_class Blank = is_blank
in_class Digit = is_digit
in_class Name = is_name
in_class Tab = λ b. b == tab
