-- What the code has of a delimiter, in the definitions.
use Rattle.std.specs.List.{list_all}
use Rattle.std.specs.Prelude.{ℕ, ◌+◌, ◌-◌, ◌==◌, Bool, ◌&&◌, List, ◌++◌, Option, Some, None, option_map, take, drop, get_or, length, nat_lt, not, if◌then◌else◌}
use Rattle.shgrammar.specs.Characters.{backslash}
use Rattle.shgrammar.specs.declared.delimiter.Delimiter as the_delimiter
use Rattle.shgrammar.specs.declared.delimiter.Quoting as the_quoting
use Rattle.shgrammar.specs.declared.delimiter.Quoting.TheVariants as quotings
use Rattle.shgrammar.specs.declared.delimiter.Unquoting as the_unquoting
use Rattle.shgrammar.specs.declared.mode.Mode.TheVariants.{Plain}
use Rattle.shgrammar.specs.HereDocuments.{ADelimiter, Quoting, not_quoted, in_single, in_double, is_live, is_quote, unquoted}
use Rattle.shgrammar.specs.Plain.{is_plain}

abbrev pub view_quoting : the_quoting.Quoting → Quoting
view_quoting quotings.NotQuoted = not_quoted
view_quoting quotings.InSingle = in_single
view_quoting quotings.InDouble = in_double

abbrev pub view_delimiter : the_delimiter.Delimiter → ADelimiter
view_delimiter d = record { text = d.text.items; literal = d.literal }

-- what is left of a word after this text
abbrev pub left_of : List ℕ → Option (List ℕ) → Option (List ℕ)
left_of text rest = option_map (λ bs. text ++ bs) rest

-- what a quote removal leaves of a word, from a place on
abbrev pub rest_of : the_unquoting.Unquoting → List ℕ → ℕ → Option (List ℕ)
rest_of u word at = left_of u.text.items (unquoted (view_quoting u.quoting) u.second (drop at word))

-- and if it goes on at all
abbrev pub left_by : the_unquoting.Unquoting → List ℕ → Option ℕ → Option (List ℕ)
left_by u word (Some at) = rest_of u word at
left_by u word None = None

-- a backslash at a place quotes the next byte
abbrev pub escapes : Quoting → List ℕ → ℕ → Bool
escapes q word at = nat_lt (at + 1) (length word) && is_live q backslash (get_or word at 0)

-- ---- delimiters whose text stands in the word

-- a delimiter of this text, literal or not
abbrev pub a_delimiter : List ℕ → Bool → ADelimiter
a_delimiter text literal = record { text = text; literal = literal }

-- the same quote stands at both ends
abbrev pub is_wrapped : List ℕ → Bool
is_wrapped word = not (nat_lt (length word) 2) && is_quote not_quoted (get_or word 0 0)
    && get_or word (length word - 1) 0 == get_or word 0 0

-- a backslash stands before other bytes
abbrev pub is_escaped : List ℕ → Bool
is_escaped word = not (nat_lt (length word) 2) && get_or word 0 0 == backslash

-- the word without the quotes around it or the backslash before it, if it has them
abbrev pub unwrapped : List ℕ → List ℕ
unwrapped word = if is_wrapped word then take (length word - 1 - 1) (drop 1 word)
    else (if is_escaped word then drop 1 word else word)

-- that part of it, where it has only bytes that are ordinary outside quotes
abbrev pub plain_part : List ℕ → Option (List ℕ)
plain_part word = if list_all (is_plain Plain) (unwrapped word) then Some (unwrapped word) else None
