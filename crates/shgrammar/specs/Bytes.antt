-- The bytes of a text as they are read: continuations are removed (XCU 2.2.1).
use Rattle.std.specs.Prelude.{ℕ, ◌+◌, ◌-◌, length, Bool, true, ◌==◌, ◌&&◌, ◌||◌, List, [], ◌∷◌, Option, Some, None, slice_get, drop, zero, suc, if◌then◌else◌}
use Rattle.shsource.specs.Text.{is_newline}
use Rattle.shgrammar.specs.Characters.{newline_char, backslash}
use Rattle.shgrammar.specs.Classes.{is_blank, is_operator}
use Rattle.shgrammar.specs.Standing.{is_byte, passes, raw_past, continues}

-- how many bytes at the front are continuations
unfoldable pub count_joined : List ℕ → ℕ
count_joined [] = 0
count_joined (b ∷ []) = 0
count_joined (b ∷ c ∷ bs) = if b == backslash && c == newline_char then 2 + count_joined bs else 0

-- past continuations: the least place at or past p that whole continuations lead to and where none stands
unfoldable pub past_continuations : List ℕ → ℕ → ℕ
past_continuations T p = p + count_joined (drop p T)

-- the byte that is read at p
abbrev pub byte_at : List ℕ → ℕ → Option ℕ
byte_at T p = slice_get T (past_continuations T p)

-- the place after that byte
unfoldable pub past_byte : List ℕ → ℕ → ℕ
past_byte T p = past_continuations T p + 1

-- the byte c is read at p
unfoldable pub stands : List ℕ → ℕ → ℕ → Bool
stands T p c = is_byte (byte_at T p) c

-- a byte that passes the test is read at p
unfoldable pub stands_in : (ℕ → Bool) → List ℕ → ℕ → Bool
stands_in test T p = passes test (byte_at T p)

abbrev pub ends : Option ℕ → Bool
ends None = true
ends (Some b) = is_blank b || is_newline b || is_operator b

-- a word ends at p: a blank, a newline, an operator or the end is there
unfoldable pub ends_word : List ℕ → ℕ → Bool
ends_word T p = ends (byte_at T p)

unfoldable pub past_below : ℕ → (ℕ → Bool) → List ℕ → ℕ → ℕ
past_below zero test T p = p
past_below (suc n) test T p = if stands_in test T p then past_below n test T (past_byte T p) else p

-- the place after the bytes that are read from p on and pass the test
unfoldable pub past : (ℕ → Bool) → List ℕ → ℕ → ℕ
past test T p = past_below (length T - p) test T p

-- where a token begins (XCU 2.3, rule 7)
unfoldable pub past_blanks : List ℕ → ℕ → ℕ
past_blanks T p = past_continuations T (past is_blank T p)

-- a continuation stands among the blanks from p on
unfoldable pub is_broken_at : List ℕ → ℕ → Bool
is_broken_at T p = continues T (raw_past is_blank T p)
