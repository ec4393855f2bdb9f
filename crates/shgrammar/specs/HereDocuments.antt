-- Here-documents: what their delimiter is, where their body ends, and what a newline
-- does where some wait (XCU 2.7.4).
use Rattle.std.specs.Prelude.{ℕ, zero, suc, ◌+◌, ◌-◌, ◌==◌, min, Bool, true, false, ◌&&◌, ◌||◌, not, List, [], ◌∷◌, ◌++◌, List as Row, length, take, drop, fold, bytes_eq, Option, Some, None, option_map, Result, Ok, Err, if◌then◌else◌}
use Rattle.std.specs.List.{list_any}
use Rattle.shast.specs.declared.tree.Span.{Span}
use Rattle.shast.specs.Shape.{bare}
use Rattle.shgrammar.specs.Characters.{tab, newline_char, quotation_mark, dollar_sign, apostrophe, left_parenthesis, backslash, grave_accent, left_brace}
use Rattle.shgrammar.specs.declared.fault.Fault.{Fault}
use Rattle.shgrammar.specs.declared.fault.FaultKind.TheVariants.{UnclosedHere}
use Rattle.shgrammar.specs.Standing.{at_end, count_front, next_newline}
use Rattle.shgrammar.specs.Bytes.{stands}
use Rattle.shgrammar.specs.Comments.{span}
use Rattle.shgrammar.specs.declared.edition.Edition.{Edition}
use Rattle.shgrammar.specs.Tokens.{is_later}
use Rattle.shgrammar.specs.States.{Given, State, Waiting}

-- ---- delimiters

-- how a byte of a word is quoted
pub data Quoting : Type 0 where
  not_quoted : Quoting
  in_single : Quoting
  in_double : Quoting

-- this byte opens quotes, or closes them (XCU 2.2.2, 2.2.3)
abbrev pub is_quote : Quoting → ℕ → Bool
is_quote not_quoted b = b == apostrophe || b == quotation_mark
is_quote in_single b = b == apostrophe
is_quote in_double b = b == quotation_mark

-- how the bytes after this quote are quoted
abbrev pub after_quote : Quoting → ℕ → Quoting
after_quote not_quoted b = if b == apostrophe then in_single else in_double
after_quote q b = not_quoted

-- a backslash, where it quotes, and a `$` and a backquote, where they are special
abbrev pub is_live : Quoting → ℕ → ℕ → Bool
is_live in_single c b = false
is_live q c b = b == c

-- this byte, before what is left of those after it
abbrev pub left_before : ℕ → Option (List ℕ) → Option (List ℕ)
left_before b left = option_map (λ bs. b ∷ bs) left

-- in double quotes a backslash stays, but before `$`, a backquote, `"` and a backslash (XCU 2.2.3)
abbrev pub stays_before : Quoting → ℕ → Bool
stays_before in_double c = not (c == dollar_sign || c == grave_accent || c == quotation_mark || c == backslash)
stays_before q c = false

-- the byte after a backslash: a continuation is dropped (XCU 2.2.1)
abbrev pub escape_left : Quoting → ℕ → Option (List ℕ) → Option (List ℕ)
escape_left q c left = if c == newline_char then left
    else (if stays_before q c then left_before backslash (left_before c left) else left_before c left)

-- A `$`, and the bytes after it: `$(`, `$((` and `${` leave nothing. Whether it is
-- the second of `$$`, and then whether the next is.
abbrev pub dollar_left : Bool → List ℕ → (Bool → Option (List ℕ)) → Option (List ℕ)
dollar_left true bs left = left_before dollar_sign (left false)
dollar_left false bs left = if stands bs 0 left_parenthesis || stands bs 0 left_brace then None
    else left_before dollar_sign (left (stands bs 0 dollar_sign))

-- a byte that is not after a backslash, and the bytes after it; text in backquotes leaves nothing
abbrev pub byte_left : Quoting → Bool → ℕ → List ℕ → (Quoting → Bool → Option (List ℕ)) → Option (List ℕ)
byte_left q second b bs left = if is_quote q b then left (after_quote q b) false
    else (if is_live q grave_accent b then None
    else (if is_live q dollar_sign b then dollar_left second bs (left q)
    else left_before b (left q second)))

-- What quote removal leaves of these bytes of a word (XCU 2.6.7), or that an expansion or text in backquotes
-- is among them. `second` tells that the next `$` is the second of `$$`.
unfoldable pub unquoted : Quoting → Bool → List ℕ → Option (List ℕ)
unquoted q second [] = Some []
unquoted q second (b ∷ []) = byte_left q second b [] (λ r s. Some [])
unquoted q second (b ∷ c ∷ bs) = if is_live q backslash b then escape_left q c (unquoted q second bs)
    else byte_left q second b (c ∷ bs) (λ r s. unquoted r s (c ∷ bs))

-- a part of the word is quoted, perhaps an empty one: its first quote, or backslash
-- that begins no continuation, stands outside quotes
abbrev pub is_quoted : List ℕ → Bool
is_quoted bytes = list_any (λ b. b == backslash || b == apostrophe || b == quotation_mark) (bare bytes)

-- the text of a delimiter, and whether its document is literal
pub record ADelimiter : Type 0 where
  pub text : List ℕ
  pub literal : Bool

-- the delimiter that a word is, by its bytes as they stand; one with an expansion is none
abbrev pub delimiter_of : List ℕ → Option ADelimiter
delimiter_of bytes = option_map (λ text. record { text = text; literal = is_quoted bytes })
    (unquoted not_quoted false bytes)

-- Text in dollar-single quotes stands in these bytes of a word; whether the next `$` is the second of `$$`.
unfoldable pub has_dollar_single : Quoting → Bool → List ℕ → Bool
has_dollar_single q second [] = false
has_dollar_single q second (b ∷ []) = false
has_dollar_single q second (b ∷ c ∷ bs) = if is_live q backslash b then has_dollar_single q second bs
    else (if is_quote q b then has_dollar_single (after_quote q b) false (c ∷ bs)
    else (if is_live q dollar_sign b then (not second && is_quote q apostrophe && stands (c ∷ bs) 0 apostrophe)
    || has_dollar_single q (not second && stands (c ∷ bs) 0 dollar_sign) (c ∷ bs)
    else has_dollar_single q second (c ∷ bs)))

-- the delimiter that an edition has: text in dollar-single quotes makes none, where the edition has it
abbrev pub delimiter_in : Edition → List ℕ → Option ADelimiter
delimiter_in edition bytes = if is_later edition && has_dollar_single not_quoted false bytes then None
    else delimiter_of bytes

-- ---- the line of a delimiter

-- the line from p on, without its newline
abbrev pub rest_of_line : List ℕ → ℕ → List ℕ
rest_of_line T p = take (next_newline T p - p) (drop p T)

-- the place after that line and its newline, where it has one
abbrev pub past_line : List ℕ → ℕ → ℕ
past_line T p = min (next_newline T p + 1) (length T)

-- the operator `<<-` takes leading tabs off
abbrev pub stripped : Bool → List ℕ → List ℕ
stripped true line = drop (count_front (λ b. b == tab) line) line
stripped false line = line

abbrev pub is_delimiter : Waiting → List ℕ → Bool
is_delimiter w line = bytes_eq (stripped w.strip line) w.delimiter

-- it ends in an odd number of backslashes, the last of which takes its newline; not where nothing is expanded
abbrev pub takes_newline : Waiting → List ℕ → Bool
takes_newline w line = not w.literal && fold (λ odd b. b == backslash && not odd) false line

-- a line that the one before takes in is not the delimiter's, which `taken` tells;
-- fewer than n bytes are left
unfoldable pub delimiter_below : ℕ → List ℕ → Waiting → Bool → ℕ → Option ℕ
delimiter_below zero T w taken p = None
delimiter_below (suc n) T w taken p =
    if at_end T p then None
    else (if not taken && is_delimiter w (rest_of_line T p) then Some p
    else delimiter_below n T w (takes_newline w (rest_of_line T p)) (past_line T p))

-- where the delimiter's line begins, from the line at p on
unfoldable pub delimiter_on : List ℕ → Waiting → Bool → ℕ → Option ℕ
delimiter_on T w taken p = delimiter_below (suc (length T - p)) T w taken p

-- where the line begins that ends the document whose body begins at p, if one does
abbrev pub delimiter_from : List ℕ → Waiting → ℕ → Option ℕ
delimiter_from T w p = delimiter_on T w false p

-- ---- what a newline does, and the operator of a redirection

abbrev pub body_by : (Row Span → ℕ → Result (Row Span × ℕ) Fault) → Given → Waiting → Row Span → ℕ → Option ℕ →
    Result (Row Span × ℕ) Fault
body_by rest g w bodies p None = Err (record { kind = UnclosedHere; at = w.operator })
body_by rest g w bodies p (Some q) = rest (bodies ++ span g.offset p q ∷ []) (past_line g.text q)

-- the bodies of these documents from p on, after those read so far, and the place
-- after the last delimiter's line
unfoldable pub bodies_from : Given → Row Waiting → Row Span → ℕ → Result (Row Span × ℕ) Fault
bodies_from g [] bodies p = Ok (bodies, p)
bodies_from g (w ∷ ws) bodies p = body_by (bodies_from g ws) g w bodies p (delimiter_from g.text w p)

abbrev pub state_by : Result (Row Span × ℕ) Fault → Result State Fault
state_by (Ok x) = Ok (record { at = x.1; waiting = []; bodies = x.0 })
state_by (Err f) = Err f

-- from just after a newline token: the bodies of what waits, and nothing waits any more
abbrev pub with_bodies : Given → State → Result State Fault
with_bodies g s = state_by (bodies_from g s.waiting s.bodies s.at)

-- one more document waits
abbrev pub with_waiting : Waiting → State → State
with_waiting w s = record { at = s.at; waiting = s.waiting ++ w ∷ []; bodies = s.bodies }

-- the operator of the first document that waits
abbrev pub first_waiting : State → Option ℕ
first_waiting s = operator_of s.waiting
  where
    operator_of : Row Waiting → Option ℕ
    operator_of [] = None
    operator_of (w ∷ ws) = Some w.operator

-- ---- changes of a state

-- a closed list, as are sights and moves
pub data Change : Type 0 where
  -- one more document waits
  waits : Waiting → Change
  -- the bodies of those that wait are read, from just after a newline token on
  bodies_here : Change

abbrev pub changed : Change → Given → State → Result State Fault
changed (waits w) g s = Ok (with_waiting w s)
changed bodies_here g s = with_bodies g s

-- ---- levels

-- a substitution is a level of its own: nothing waits where it begins, and after it
-- what waited before it waits again
abbrev pub own_level : State → State
own_level s = record { at = s.at; waiting = []; bodies = [] }

abbrev pub outer_level : State → State → State
outer_level s t = record { at = t.at; waiting = s.waiting; bodies = s.bodies }
