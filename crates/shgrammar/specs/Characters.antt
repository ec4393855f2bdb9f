-- Bytes by the names of their characters (XBD 6.1).
use Rattle.std.specs.Prelude.{ℕ}

abbrev pub tab : ℕ
tab = 9

abbrev pub newline_char : ℕ
newline_char = 10

abbrev pub space : ℕ
space = 32

abbrev pub exclamation_mark : ℕ
exclamation_mark = 33

abbrev pub quotation_mark : ℕ
quotation_mark = 34

abbrev pub number_sign : ℕ
number_sign = 35

abbrev pub dollar_sign : ℕ
dollar_sign = 36

abbrev pub percent_sign : ℕ
percent_sign = 37

abbrev pub ampersand : ℕ
ampersand = 38

abbrev pub apostrophe : ℕ
apostrophe = 39

abbrev pub left_parenthesis : ℕ
left_parenthesis = 40

abbrev pub right_parenthesis : ℕ
right_parenthesis = 41

abbrev pub asterisk : ℕ
asterisk = 42

abbrev pub hyphen : ℕ
hyphen = 45

abbrev pub semicolon : ℕ
semicolon = 59

abbrev pub less_than_sign : ℕ
less_than_sign = 60

abbrev pub equals_sign : ℕ
equals_sign = 61

abbrev pub greater_than_sign : ℕ
greater_than_sign = 62

abbrev pub question_mark : ℕ
question_mark = 63

abbrev pub commercial_at : ℕ
commercial_at = 64

abbrev pub backslash : ℕ
backslash = 92

abbrev pub underscore : ℕ
underscore = 95

abbrev pub grave_accent : ℕ
grave_accent = 96

abbrev pub left_brace : ℕ
left_brace = 123

abbrev pub vertical_line : ℕ
vertical_line = 124

abbrev pub right_brace : ℕ
right_brace = 125
