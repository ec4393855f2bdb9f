-- An input spells one list of requests.
use Rattle.std.proofs.Common.{◌≡◌, ℕ, zero, suc, ◌<◌, ◌≤◌, Bool, true, false, cond, List, [], ◌∷◌, ◌++◌, List as Row, Option, None, Some, length, take, drop, refl, sym, ap, ◌∙◌, arith, append_assoc, append-nil, length-drop, subst}
use Rattle.shsource.specs.Text.{is_newline}
use Rattle.shtext.specs.Edit.{ASplice}
use Rattle.shlive.specs.Requests.{Begins, Ending, EndsBy, Lined, NextRequest, Request, Requests, Parser, after_payload, asks, clean, cut, edit_alone, first_line, quits, left, more_parts, next_by_line, next_by_kind, next_by_part, next_request_of, none_yet, nothing, one_more, kind_of_line, part_by_line, part_of_line, splice_by, unfinished, with_bytes, with_text_before}
use Rattle.shlive.specs.declared.request_kind.RequestKind.{RequestKind}
use Rattle.shlive.specs.declared.request_kind.Part.{Part}
use Rattle.shlive.specs.declared.request_kind.EditForm.TheVariants as forms
use Rattle.shlive.specs.declared.request_kind.RequestKind.TheVariants as kinds

-- ---- what follows a request is shorter

-- what follows the first line, if there is one, is shorter than the text
abbrev Shorter : List ℕ → Lined → Type 0
Shorter text None = Unit {0}
Shorter text (Some (line, rest)) = length rest < length text

-- what follows the first line is shorter than the text, with one byte more before it and then of any text
shorter_after : (b : ℕ) (text : List ℕ) (l : Lined) → Shorter text l → Shorter (b ∷ text) (with_text_before (b ∷ []) l)
shorter_after b text None p = tt
shorter_after b text (Some (line, rest)) p = omega (arith, p)

shorter_by : (b : ℕ) (text : List ℕ) (c : Bool) (l : Lined) → Shorter text l →
    Shorter (b ∷ text) (cond c (Some ([], text)) (with_text_before (b ∷ []) l))
shorter_by b text true l p = omega arith
shorter_by b text false l p = shorter_after b text l p

line_shorter : (text : List ℕ) → Shorter text (first_line text)
line_shorter [] = tt
line_shorter (b ∷ text) = shorter_by b text (is_newline b) (first_line text) (line_shorter text)

-- what is asked for leaves less than there was
abbrev Leaves : ℕ → NextRequest → Type 0
Leaves n nothing = Unit {0}
Leaves n unfinished = Unit {0}
Leaves n quits = Unit {0}
Leaves n (asks request rest) = length rest < n

-- where what it goes on with does
abbrev GoesOn : ℕ → Parser → Type 0
GoesOn n next = (rest : List ℕ) → length rest < n → Leaves n (next rest)

-- less is left after a splice, a part and its line, all parts of a batch, and what any line asks for
leaves_after : (next : Parser) (text : List ℕ) (l : Lined) (n : ℕ) → Shorter text l → length text < n → GoesOn n next →
    Leaves n (after_payload next l)
leaves_after next text None n p low on = tt
leaves_after next text (Some ([], rest)) n p low on = on rest (omega (arith, p, low))
leaves_after next text (Some (c ∷ line, rest)) n p low on = omega (arith, p, low)

leaves_bytes : (part : Part) (next : ASplice → Parser) (rest : List ℕ) (n : ℕ) → length rest < n →
    ((s : ASplice) → GoesOn n (next s)) → Leaves n (with_bytes part next rest)
leaves_bytes part next rest n low on =
    let less = length-drop part.count rest in
    let after : List ℕ = drop part.count rest in
    leaves_after (next (splice_by part (take part.count rest))) after (first_line after) n (line_shorter after)
    (omega (arith, less, low)) (on _)

leaves_part : (part : Option Part) (next : ASplice → Parser) (rest : List ℕ) (n : ℕ) → length rest < n →
    ((s : ASplice) → GoesOn n (next s)) → Leaves n (next_by_part part next rest)
leaves_part None next rest n low on = low
leaves_part (Some part) next rest n low on = leaves_bytes part next rest n low on

leaves_part_line : (next : ASplice → Parser) (text : List ℕ) (l : Lined) (n : ℕ) → Shorter text l → length text < n →
    ((s : ASplice) → GoesOn n (next s)) → Leaves n (part_by_line next l)
leaves_part_line next text None n p low on = tt
leaves_part_line next text (Some (line, rest)) n p low on =
    leaves_part (part_of_line line) next rest n (omega (arith, p, low)) on

leaves_parts : (count : ℕ) (ss : Row ASplice) (n : ℕ) → GoesOn n (more_parts count ss)
leaves_parts zero ss n rest low = low
leaves_parts (suc count) ss n rest low =
    leaves_part_line (λ s. more_parts count (ss ++ s ∷ [])) rest (first_line rest) n (line_shorter rest) low
    (λ s. leaves_parts count (ss ++ s ∷ []) n)

leaves_kind : (kind : Option RequestKind) (rest : List ℕ) (n : ℕ) → length rest < n →
    Leaves n (next_by_kind kind rest)
leaves_kind (Some (kinds.Edit (forms.Alone part))) rest n low =
    leaves_bytes part edit_alone rest n low (λ s r less. less)
leaves_kind (Some (kinds.Edit (forms.Batch count))) rest n low = leaves_parts count [] n rest low
leaves_kind (Some (kinds.Ask question)) rest n low = low
leaves_kind (Some kinds.Quit) rest n low = tt
leaves_kind None rest n low = low

leaves_line : (text : List ℕ) (l : Lined) → Shorter text l → Leaves (length text) (next_by_line l)
leaves_line text None p = tt
leaves_line text (Some (line, rest)) p = leaves_kind (kind_of_line line) rest (length text) p

-- the first request of an input leaves less than the input
next_shorter : (input : List ℕ) → Leaves (length input) (next_request_of input)
next_shorter [] = tt
next_shorter (b ∷ text) = leaves_line (b ∷ text) (first_line (b ∷ text)) (line_shorter (b ∷ text))

-- ---- there is a list

-- an input spells requests, and ends in one of three ways after them
abbrev Ended : List ℕ → Type 0
Ended input = (requests : List Request) × ((ending : Ending) × Requests input requests ending)

module _ (input : List ℕ) where
  -- where no request follows those that were asked, the input ended
  ends : (asked : List Request) (mid : List ℕ) (next : NextRequest) (e : Ending) → Begins input asked mid →
      next_request_of mid ≡ next → EndsBy next e → Ended input
  ends asked mid next e b is end = (asked, (e, (mid, b, subst (λ n. EndsBy n e) (sym is) end)))

  -- where no more than n bytes follow the requests so far, the input has an end
  by_next : (n : ℕ) (asked : List Request) (mid : List ℕ) (next : NextRequest) → length mid ≤ n →
      Begins input asked mid → next_request_of mid ≡ next → Leaves (length mid) (next_request_of mid) → Ended input
  by_next n asked mid nothing low b is less = ends asked mid nothing clean b is tt
  by_next n asked mid unfinished low b is less = ends asked mid unfinished cut b is tt
  by_next n asked mid quits low b is less = ends asked mid quits left b is tt
  by_next zero asked mid (asks request rest) low b is less =
      let few : length rest < length mid = subst (Leaves (length mid)) is less in absurd (omega (arith, few, low))
  by_next (suc n) asked mid (asks request rest) low b is less =
      let few : length rest < length mid = subst (Leaves (length mid)) is less in
      by_next n (asked ++ request ∷ []) rest (next_request_of rest) (omega (arith, few, low))
      (one_more request rest b is) refl (next_shorter rest)

-- each input has requests and an end
pub some_list : (input : List ℕ) → Ended input
some_list input = by_next input (length input) [] input (next_request_of input) (omega arith) none_yet refl
    (next_shorter input)

-- ---- there is no other

-- the same from the first request on
abbrev Goes : List ℕ → List Request → Ending → Type 0
Goes input [] e = EndsBy (next_request_of input) e
Goes input (r ∷ rs) e = (rest : List ℕ) × (next_request_of input ≡ asks r rest) × Goes rest rs e

-- requests that an input begins with go before those of what follows them
goes_before : (input : List ℕ) (asked : List Request) (mid : List ℕ) (e : Ending) (more : List Request) →
    Begins input asked mid → Goes mid more e → Goes input (asked ++ more) e
goes_before input _ _ e more none_yet g = g
goes_before input _ _ e more (one_more {requests} {mid} request rest b is) g =
    subst (λ l. Goes input l e) (sym (append_assoc requests (request ∷ []) more))
    (goes_before input requests mid e (request ∷ more) b (rest, is, g))

-- what is no request is an end of one kind, and a request is no end
one_end : (n : NextRequest) (d e : Ending) → EndsBy n d → EndsBy n e → d ≡ e
one_end nothing clean clean p q = refl
one_end nothing clean cut p q = absurd q
one_end nothing clean left p q = absurd q
one_end nothing cut e p q = absurd p
one_end nothing left e p q = absurd p
one_end unfinished cut cut p q = refl
one_end unfinished cut clean p q = absurd q
one_end unfinished cut left p q = absurd q
one_end unfinished clean e p q = absurd p
one_end unfinished left e p q = absurd p
one_end quits left left p q = refl
one_end quits left clean p q = absurd q
one_end quits left cut p q = absurd q
one_end quits clean e p q = absurd p
one_end quits cut e p q = absurd p
one_end (asks r rest) d e p q = absurd p

no_end : (n : NextRequest) (e : Ending) (r : Request) (rest : List ℕ) → n ≡ asks r rest → EndsBy n e → ⊥
no_end n e r rest is p = let q : EndsBy (asks r rest) e = subst (λ m. EndsBy m e) is p in q

-- the request that is asked for, and what follows it; where there is none, one given and no bytes
abbrev request_in : Request → NextRequest → Request
request_in d nothing = d
request_in d unfinished = d
request_in d quits = d
request_in d (asks r rest) = r

abbrev rest_in : NextRequest → List ℕ
rest_in nothing = []
rest_in unfinished = []
rest_in quits = []
rest_in (asks r rest) = rest

-- from its first request on, an input goes one way
goes_one : (input : List ℕ) (rs ss : List Request) (d e : Ending) → Goes input rs d → Goes input ss e → (rs ≡ ss)
    × (d ≡ e)
goes_one input [] [] d e p q = (refl, one_end (next_request_of input) d e p q)
goes_one input [] (s ∷ ss) d e p (rest, is, q) = absurd (no_end (next_request_of input) d s rest is p)
goes_one input (r ∷ rs) [] d e (rest, is, p) q = absurd (no_end (next_request_of input) e r rest is q)
goes_one input (r ∷ rs) (s ∷ ss) d e (m, is, p) (n, also, q) =
    let same : asks r m ≡ asks s n = sym is ∙ also in
    let one : r ≡ s = ap (request_in r) same in
    let on : n ≡ m = sym (ap rest_in same) in
    let rest = goes_one m rs ss d e p (subst (λ l. Goes l ss e) on q) in
    (ap (λ x. x ∷ rs) one ∙ ap (λ l. s ∷ l) rest.0, rest.1)

-- the requests of an input are those from its first one on
to_goes : (input : List ℕ) (rs : List Request) (e : Ending) → Requests input rs e → Goes input rs e
to_goes input rs e (rest, b, ends) = subst (λ l. Goes input l e) (append-nil rs) (goes_before input rs rest e [] b ends)

-- an input has one list of requests, and one end
pub only_list : (input : List ℕ) (a b : List Request) (d e : Ending) → Requests input a d → Requests input b e → (a ≡ b)
    × (d ≡ e)
only_list input a b d e p q = goes_one input a b d e (to_goes input a d p) (to_goes input b e q)
