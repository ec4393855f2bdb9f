-- The bytes of a text as they stand, continuations and all.
use Rattle.std.specs.Prelude.{ℕ, ◌+◌, Bool, true, false, ◌==◌, ◌&&◌, not, List, [], ◌∷◌, Option, Some, None, slice_get, drop, zero, suc, if◌then◌else◌}
use Rattle.shgrammar.specs.Characters.{newline_char, backslash}
use Rattle.shgrammar.specs.Classes.{is_blank}

abbrev pub is_byte : Option ℕ → ℕ → Bool
is_byte None c = false
is_byte (Some b) c = b == c

abbrev pub is_none : Option ℕ → Bool
is_none None = true
is_none (Some b) = false

abbrev pub passes : (ℕ → Bool) → Option ℕ → Bool
passes test None = false
passes test (Some b) = test b

-- the byte c is the one at p
unfoldable pub raw_stands : List ℕ → ℕ → ℕ → Bool
raw_stands T p c = is_byte (slice_get T p) c

-- a byte that passes the test is the one at p
unfoldable pub raw_in : (ℕ → Bool) → List ℕ → ℕ → Bool
raw_in test T p = passes test (slice_get T p)

-- p is at or past the end
unfoldable pub at_end : List ℕ → ℕ → Bool
at_end T p = is_none (slice_get T p)

-- how many bytes at the front pass the test
unfoldable pub count_front : (ℕ → Bool) → List ℕ → ℕ
count_front test [] = 0
count_front test (b ∷ bs) = if test b then 1 + count_front test bs else 0

-- the place after the bytes from p on that pass the test
unfoldable pub raw_past : (ℕ → Bool) → List ℕ → ℕ → ℕ
raw_past test T p = p + count_front test (drop p T)

-- the next place from p on where a byte passes the test, or the end
abbrev pub next_such : (ℕ → Bool) → List ℕ → ℕ → ℕ
next_such test T p = raw_past (λ b. not (test b)) T p

-- the next place from p on where the byte c is, or the end
abbrev pub next_of : ℕ → List ℕ → ℕ → ℕ
next_of c T p = next_such (λ b. b == c) T p

-- the newline, or the end, after p
abbrev pub next_newline : List ℕ → ℕ → ℕ
next_newline T p = next_of newline_char T p

-- the place after the last byte before q that is no blank
unfoldable pub before_blanks : List ℕ → ℕ → ℕ
before_blanks T zero = 0
before_blanks T (suc q) = if raw_in is_blank T q then before_blanks T q else suc q

-- a backslash and a newline stand at p: a continuation (XCU 2.2.1)
unfoldable pub continues : List ℕ → ℕ → Bool
continues T p = raw_stands T p backslash && raw_stands T (p + 1) newline_char
