-- What the line of a request asks for: words, parted by one blank each, and numbers.
use Rattle.std.specs.Prelude.{ℕ, ◌+◌, ◌-◌, ◌*◌, ◌<◌, ◌==◌, Bool, ◌&&◌, not, nat_le, nat_lt, List, [], ◌∷◌, ◌++◌, length, Option, None, Some, option_and_then, option_map, codes, if◌then◌else◌}
use Rattle.std.specs.Str.{bytes_eq}
use Rattle.shgrammar.specs.Characters.{space}
use Rattle.shlive.specs.declared.request_kind.EditForm.{EditForm}
use Rattle.shlive.specs.declared.request_kind.EditForm.TheVariants.{Alone, Batch}
use Rattle.shlive.specs.declared.request_kind.RequestKind.{RequestKind}
use Rattle.shlive.specs.declared.request_kind.RequestKind.TheVariants.{Edit, Ask, Quit}
use Rattle.shlive.specs.declared.request_kind.Part.{Part}
use Rattle.shlive.specs.declared.request_kind.Question.TheVariants.{Outline, At, Fault, Print}

-- ---- words

-- text before the first of these words
abbrev pub before : List ℕ → List (List ℕ) → List (List ℕ)
before text [] = text ∷ []
before text (w ∷ ws) = (text ++ w) ∷ ws

-- the words of a line, which blanks part: one more than there are blanks, and one
-- without a byte beside each blank too many
abbrev pub words : List ℕ → List (List ℕ)
words [] = [] ∷ []
words (b ∷ bs) = if b == space then [] ∷ words bs else before (b ∷ []) (words bs)

-- ---- numbers

abbrev pub is_digit : ℕ → Bool
is_digit b = nat_le 48 b && nat_le b 57

-- the number that digits spell after those of n
abbrev pub digits_from : ℕ → List ℕ → Option ℕ
digits_from n [] = Some n
digits_from n (d ∷ ds) = if is_digit d then digits_from (10 * n + (d - 48)) ds else None

-- `0`, or one to ten digits without a leading zero
abbrev pub number_of : List ℕ → Option ℕ
number_of [] = None
number_of (d ∷ ds) = if nat_le (length ds) 9 && not (d == 48 && nat_lt 0 (length ds)) then digits_from 0 (d ∷ ds)
    else None

-- a number and no word more
abbrev pub number_alone : List (List ℕ) → Option ℕ
number_alone (n ∷ []) = number_of n
number_alone _ = None

-- ---- parts of an edit

abbrev pub part_by : Option ℕ → Option ℕ → Option ℕ → Option Part
part_by (Some a) (Some b) (Some n) = Some (record { a = a; b = b; count = n })
part_by _ _ _ = None

-- A B N
abbrev pub part_of_words : List (List ℕ) → Option Part
part_of_words (a ∷ b ∷ n ∷ []) = part_by (number_of a) (number_of b) (number_of n)
part_of_words _ = None

abbrev pub part_of : List ℕ → Option Part
part_of line = part_of_words (words line)

-- ---- requests

-- a request of one word
abbrev pub kind_of_one_word : List ℕ → Option RequestKind
kind_of_one_word word =
    if bytes_eq word (codes "outline") then Some (Ask Outline)
    else if bytes_eq word (codes "fault") then Some (Ask Fault)
    else if bytes_eq word (codes "print") then Some (Ask Print)
    else if bytes_eq word (codes "quit") then Some Quit else None

-- a batch has 1 to 64 parts
abbrev pub batch_of : ℕ → Option RequestKind
batch_of n = if nat_le 1 n && nat_le n 64 then Some (Edit (Batch n)) else None

-- a batch has a part
abbrev pub HasPart : EditForm → Type 0
HasPart (Alone p) = Unit {0}
HasPart (Batch n) = 0 < n

abbrev pub HasParts : RequestKind → Type 0
HasParts (Edit form) = HasPart form
HasParts _ = Unit {0}

-- a request of a name and more words
abbrev pub kind_by_name : List ℕ → List (List ℕ) → Option RequestKind
kind_by_name name ws =
    if bytes_eq name (codes "at") then option_map (λ n. Ask (At n)) (number_alone ws)
    else if bytes_eq name (codes "edit") then option_map (λ p. Edit (Alone p)) (part_of_words ws)
    else if bytes_eq name (codes "batch") then option_and_then batch_of (number_alone ws) else None

abbrev pub kind_of_words : List (List ℕ) → Option RequestKind
kind_of_words [] = None
kind_of_words (name ∷ []) = kind_of_one_word name
kind_of_words (name ∷ w ∷ ws) = kind_by_name name (w ∷ ws)

-- what a line asks for, None for one that is no request
abbrev pub request_kind_of : List ℕ → Option RequestKind
request_kind_of line = kind_of_words (words line)
