-- Commands of a list that ends by a `)` are read wherever their bytes stand up to that `)`, with the same
-- shape: items and redirections, commands, pipelines, and-or lists and entries, one term a row.
use Rattle.std.proofs.Common.{◌+◌, ◌≡◌, ℕ, Bool, false, List, List as Row, [], ◌∷◌, drop, map, option_map, Option, Some, None, is_some, refl, sym, ap, subst, ◌∙◌}
use Rattle.shgrammar.specs.declared.token.Next.{Next}
use Rattle.shgrammar.specs.declared.token.Opener.{Opener}
use Rattle.shgrammar.specs.declared.token.Position.{Position}
use Rattle.shgrammar.specs.declared.token.Position.TheVariants.{Command, Prefix, Suffix}
use Rattle.shast.specs.declared.tree.AndOrOperator.{AndOrOperator}
use Rattle.shast.specs.declared.tree.RedirectOperator.{RedirectOperator}
use Rattle.shast.specs.declared.tree.Span.{Span}
use Rattle.shast.specs.Tree.{AHere, AnAndOrPartOf, APipelinePartOf, ACommand, AWord, AnAndOrPart, APipelinePart, AnItem, and_or_parts_of, entry, item, items_of, ItemsOf, pipeline_parts_of, redirect, with_redirects, compound, formed, simple, function, word}
use Rattle.shast.specs.Nodes.{word_span}
use Rattle.shast.specs.Shape.{shape_of_here, bare, bare_at, text_at, shape_of_entry, shape_of_and_or, shape_of_and_or_parts, shape_of_pipeline, shape_of_bang, shape_of_pipes, shape_of_command, shape_of_items, shape_of_item, shape_of_join, shape_of_word, Text, shape_of_form}
use Rattle.shgrammar.specs.Sights.{here, is_a_name, the_delimiter}
use Rattle.shgrammar.specs.Form.{change, Form, Spelled}
use Rattle.shgrammar.specs.Words.{Inner, a_word}
use Rattle.shgrammar.specs.Commands.{is_strip, document, document_by, a_document, is_pipe, is_bang, begins_simple, begins_redirect, opener_of, compound_by, and_or_operator_of, ItemsSoFar, items_so_far, breaks, after_word, is_number_token, redirect_operator_of, takes_here, is_long, a_number, an_operator, operator_by, a_target, one_redirect, after_redirect, redirect_turn, with_redirect_list, as_item, an_item, item_by, item_turn, a_simple, a_command, a_bang, PipesSoFar, pipes_so_far, one_command, pipe_turn, a_pipeline, AndOrSoFar, and_or_so_far, one_pipeline, joined_by, and_or_turn, an_and_or, is_background, ASeparator, past_separator, Entered, an_entry, is_word, is_paren, named_function, a_word_command}
use Rattle.shgrammar.proofs.Alike.{SameStep}
use Rattle.shgrammar.proofs.Ahead.{ListEnds, same_name}
use Rattle.shgrammar.specs.HereDocuments.{ADelimiter, waits}
use Rattle.shgrammar.proofs.Shifted.{shifted}
use Rattle.shgrammar.proofs.BodiesThere.{move_span}
use Rattle.shgrammar.proofs.FormsElsewhere.{go_waits, go_place, go_with_bytes, Goes, go_see, go_so, go_token, go_any, go_stop}
use Rattle.shgrammar.specs.declared.edition.Edition.{Edition}
use Rattle.shgrammar.proofs.JoinsElsewhere.{rows_more, rows_empty, SameText, SameRemark, SameSeparator, gives, pushes, then, moves_on, picks, at_same, marks, two_marks, repeats, next_same, comment_at_same, separator_same, join_same, stopped}

-- ---- rows of the same shapes

module _ (B : List ℕ) where
  -- the shape of what follows a `|`, and of what follows `&&` or `||`
  abbrev pub pipe_shape : APipelinePart → APipelinePartOf Text (Unit {0})
  pipe_shape p = record { join = shape_of_join B p.join; command = shape_of_command B p.command }

  abbrev pub part_shape : AnAndOrPart → AnAndOrPartOf Text (Unit {0})
  part_shape p = record {
    operator = p.operator;
    join = shape_of_join B p.join;
    pipeline = shape_of_pipeline B p.pipeline;
  }

  -- the shape of a row is the row of its shapes
  items_shape : (is : Row AnItem) → shape_of_items B (items_of is) ≡ items_of (map (shape_of_item B) is)
  items_shape [] = refl
  items_shape (i ∷ is) = rw (items_shape is) refl

  pipes_shape : (ps : Row APipelinePart) →
      shape_of_pipes B (pipeline_parts_of ps) ≡ pipeline_parts_of (map pipe_shape ps)
  pipes_shape [] = refl
  pipes_shape (p ∷ ps) = rw (pipes_shape ps) refl

  parts_shape : (ps : Row AnAndOrPart) →
      shape_of_and_or_parts B (and_or_parts_of ps) ≡ and_or_parts_of (map part_shape ps)
  parts_shape [] = refl
  parts_shape (p ∷ ps) = rw (parts_shape ps) refl

-- ---- what is the same in both texts

module _ (B B2 : List ℕ) where
  -- two words have the same shape
  abbrev pub SameWord : AWord → AWord → Type 0
  SameWord w v = shape_of_word B w ≡ shape_of_word B2 v

  -- two commands have the same shape, and the same token stands after them
  abbrev pub SameCommand : ACommand × Next → ACommand × Next → Type 0
  SameCommand x y = (shape_of_command B x.0 ≡ shape_of_command B2 y.0) × (x.1 ≡ y.1)

  -- two rows of items have the same shapes and end at the same position, and the same token stands after them
  abbrev pub SameItems : ItemsSoFar → ItemsSoFar → Type 0
  SameItems i j = (map (shape_of_item B) i.items ≡ map (shape_of_item B2) j.items)
      × ((i.position ≡ j.position) × (i.next ≡ j.next))

  -- two entries have the same shape, a separator ends both or neither, and the same token stands after them
  abbrev pub SameEntered : Entered → Entered → Type 0
  SameEntered e f = (shape_of_entry B e.entry ≡ shape_of_entry B2 f.entry)
      × ((is_some e.parted ≡ is_some f.parted) × (e.next ≡ f.next))

  -- items that are the same in that way have rows of the same shape
  pub items_same : (i j : ItemsSoFar) → SameItems i j →
      shape_of_items B (items_of i.items) ≡ shape_of_items B2 (items_of j.items)
  items_same i j same = items_shape B i.items ∙ ap items_of same.0 ∙ sym (items_shape B2 j.items)

-- what may be opened is read there, with the same shape
module _ {edition : Edition} {T U : List ℕ} {a M : ℕ} {to : ℕ → ℕ} {limit : ℕ}
    (E : ListEnds edition T U a M to limit) (o o2 : ℕ) (B B2 : List ℕ) (stands : T ≡ drop o B)
    (stands_there : U ≡ drop o2 B2) where
  pub record InnerElsewhere (inner : Inner) : Type 0 where
    pub word : Goes E o o2 B B2 stands stands_there (SameWord B B2) (a_word inner) (a_word inner)
    pub compound : (c : Opener) → Goes E o o2 B B2 stands stands_there (SameCommand B B2) (inner.compound c)
        (inner.compound c)
    pub function : (name new : Span) → text_at B name ≡ text_at B2 new →
        Goes E o o2 B B2 stands stands_there (SameCommand B B2) (inner.function name) (inner.function new)

module _ {edition : Edition} {T U : List ℕ} {a M : ℕ} {to : ℕ → ℕ} {limit : ℕ}
    {E : ListEnds edition T U a M to limit} {o o2 : ℕ} {B B2 : List ℕ} {stands : T ≡ drop o B}
    {stands_there : U ≡ drop o2 B2}
    {inner : Inner} (fine : InnerElsewhere E o o2 B B2 stands stands_there inner) where
  -- what r reads in the one text q reads in the other, and S holds of the two: `Goes` of
  -- these texts and places
  abbrev Goes2 : {X Y : Type 0} → (X → Y → Type 0) → Form X → Form Y → Type 0
  Goes2 S r q = Goes E o o2 B B2 stands stands_there S r q

  -- ---- items and redirections

  -- Each row: what it reads here it reads there, with the same shape, and hands on the same token.

  -- words of the same shape make items of the same shape, in the same position
  item_same : (position : Position) (b c : Bool) (w v : AWord) → b ≡ c → SameWord B B2 w v →
      shape_of_item B (item b (as_item position w)) ≡ shape_of_item B2 (item c (as_item position v))
  item_same Command b c w v one two = rw (one, two) refl
  item_same Prefix b c w v one two = rw (one, two) refl
  item_same Suffix b c w v one two = rw (one, two) refl

  -- both items break the line, or none does
  breaks_same : (i j : ItemsSoFar) → SameItems B B2 i j → breaks i ≡ breaks j
  breaks_same i j same = rw (rows_empty (shape_of_item B) (shape_of_item B2) i.items j.items same.0, same.1.1) refl

  -- where the items so far are the same, they are so with one more that is a word
  pub one_item : (i j : ItemsSoFar) (position : Position) → SameItems B B2 i j →
      Goes2 (SameStep (SameItems B B2)) (an_item inner i position) (an_item inner j position)
  unfolding an_item
  one_item i j position same =
      then fine.word (λ w v so. then (pushes {S = λ is js. map (shape_of_item B) is ≡ map (shape_of_item B2) js}
      (rows_more (shape_of_item B) (shape_of_item B2) i.items _ j.items _ same.0
      (item_same position (breaks i) (breaks j) w v (breaks_same i j same) so)))
      (λ is js all. then (next_same position) (λ n m is_next. gives (all, (refl, is_next)))))

  -- two rows of items have the same shapes
  abbrev SameRow : Row AnItem → Row AnItem → Type 0
  SameRow is js = map (shape_of_item B) is ≡ map (shape_of_item B2) js

  -- a number of the same text is read in both texts, or none in both
  number_same : (n : Next) → Goes2 (SameRemark B B2) (a_number n) (a_number n)
  unfolding a_number
  number_same n =
      picks (is_number_token n.token) _ refl
      (then (go_token E o o2 B B2 stands stands_there moves_on)
      (λ x y text. then (next_same Suffix) (λ m k same. gives (ap Some text.1, same)))) (gives (refl, refl))

  -- an operator is read in both texts, and stands there at the place that is meant
  operator_same : (z : RedirectOperator) → Goes2 (λ x y. move_span E o o2 x.1 ≡ y.1) (an_operator z) (an_operator z)
  unfolding an_operator
  operator_same z =
      go_so E o o2 B B2 stands stands_there
      (go_place E o o2 B B2 stands stands_there {S = λ x y. Unit {0}}
      (then moves_on (λ u v all. then {S = λ x y. Unit {0}} (picks (is_long z) _ refl moves_on (gives tt))
      (λ x y any. picks (is_strip z) _ refl moves_on (gives tt))))) (λ x y so. so.1)

  -- two operators are the same, and the second one stands at the place that is meant
  abbrev SameOperator : RedirectOperator × Span → RedirectOperator × Span → Type 0
  SameOperator x y = (x.0 ≡ y.0) × (move_span E o o2 x.1 ≡ y.1)

  -- where an operator stands, the same one is read in both texts; so it is by the token
  operator_by_same : (p q : ℕ) (z : Option RedirectOperator) → Goes2 SameOperator (operator_by p z) (operator_by q z)
  operator_by_same p q (Some z) = then (operator_same z) (λ x y so. gives (refl, so))
  operator_by_same p q None = go_stop E o o2 B B2 stands stands_there

  operator_at : (p q : ℕ) (n m : Next) → n ≡ m →
      Goes2 SameOperator (operator_by p (redirect_operator_of n.token)) (operator_by q (redirect_operator_of m.token))
  operator_at p q n m same = at_same (of p) (of q) (λ k. operator_by_same p q (redirect_operator_of k.token)) n m same
    where
      of : ℕ → Next → Form (RedirectOperator × Span)
      of r k = operator_by r (redirect_operator_of k.token)

  -- two words of redirections have the same shape and the same bytes
  abbrev SameTarget : AWord × Spelled → AWord × Spelled → Type 0
  SameTarget x y = SameWord B B2 x.0 y.0 × (x.1 ≡ y.1)

  -- the word of a redirection is read with the same shape and the same bytes in both texts
  target_same : Goes2 SameTarget (a_target inner) (a_target inner)
  unfolding a_target
  target_same = then (next_same Suffix)
      (λ n m same. picks _ _ (ap (λ (k : Next). is_word k.token) same)
      (go_with_bytes E o o2 B B2 stands stands_there fine.word) (stopped inner n))

  -- two here-documents, or none, have the same shape; their bodies are not known yet
  abbrev SameHere : Option AHere → Option AHere → Type 0
  SameHere x y = option_map (shape_of_here B) x ≡ option_map (shape_of_here B2) y

  -- a here-document waits there too, where the offset of its operator is moved
  document_by_same : (b c p q : ℕ) (strip : Bool) (d : Option ADelimiter) → shifted (o + a) (o2 + to a) b ≡ c →
      Goes2 SameHere (document_by b p strip d) (document_by c q strip d)
  document_by_same b c p q strip (Some d) is =
      then (subst (λ (n : ℕ). Goes2 (λ x y. Unit {0}) (change (waits (document b strip d)))
      (change (waits (document n strip d)))) is (go_waits E o o2 B B2 stands stands_there))
      (λ u v any. gives refl)
  document_by_same b c p q strip None is = go_stop E o o2 B B2 stands stands_there

  -- a here-document waits there too after each operator, if that takes one
  document_same : (z : RedirectOperator) (b c p q : ℕ) (k : Spelled) → shifted (o + a) (o2 + to a) b ≡ c →
      Goes2 SameHere (a_document z b p k) (a_document z c q k)
  unfolding a_document
  document_same z b c p q k is =
      picks (takes_here z) _ refl (then
      (go_see E o o2 B B2 stands stands_there {l = the_delimiter k} (λ s from e. refl))
      (λ d f same. rw (← same) (document_by_same b c p q (is_strip z) d is))) (gives refl)

  document_at : (x y : RedirectOperator × Span) (w v : AWord × Spelled) → SameOperator x y → SameTarget w v
      → Goes2 SameHere (a_document x.0 x.1.start (word_span w.0).start w.1)
      (a_document y.0 y.1.start (word_span v.0).start v.1)
  document_at x y w v four five =
      rw (← four.0, ← five.1) (document_same x.0 x.1.start y.1.start (word_span w.0).start (word_span v.0).start w.1
      (ap (λ (z : Span). z.start) four.1))

  -- a number of the same text has the same digits, without its continuations
  bare_same : (c d : Option Span) → SameText B B2 c d → option_map (bare_at B) c ≡ option_map (bare_at B2) d
  bare_same None None same = refl
  bare_same None (Some d) same = absurd cc
  bare_same (Some c) None same = absurd cc
  bare_same (Some c) (Some d) same = let text : text_at B c ≡ text_at B2 d = cc in ap (λ z. Some (bare z)) text

  -- redirections of the same parts have the same shape
  redirect_shape : (broken pale : Bool) (c d : Option Span) (z y : RedirectOperator) (s t : Span) (w v : AWord)
      (h i : Option AHere) → broken ≡ pale → SameText B B2 c d → z ≡ y → SameWord B B2 w v → SameHere h i
      → shape_of_item B (item broken (redirect c z s w h)) ≡ shape_of_item B2 (item pale (redirect d y t v i))
  redirect_shape broken pale c d z y s t w v h i one two three four five =
      rw (one, bare_same c d two, three, four, five) refl

  -- where the items so far are the same, they are so with one more redirection, and also where positions and
  -- tokens are said to be equal
  redirect_same : (broken pale : Bool) (position : Position) (is js : Row AnItem) (n : Next) → broken ≡ pale →
      SameRow is js
      → Goes2 (SameStep (SameItems B B2)) (one_redirect inner broken position is n)
      (one_redirect inner pale position js n)
  unfolding one_redirect
  redirect_same broken pale position is js n one two =
      then (go_any E o o2 B B2 stands stands_there {l = here})
      (λ p q any. then (number_same n)
      (λ d e three. then (operator_at p q d.1 e.1 three.1) (λ x y four. then target_same (λ w v five.
      then (document_at x y w v four five) (λ h i six.
      then (pushes {S = SameRow} (rows_more (shape_of_item B) (shape_of_item B2) is _ js _ two
      (redirect_shape broken pale d.0 e.0 x.0 y.0 x.1 y.1 w.0 v.0 h i one three.0 four.0 five.0 six)))
      (λ ks ls all. then (next_same position) (λ m k is_next. gives (all, (refl, is_next)))))))))

  redirect_at : (broken pale : Bool) (p q : Position) (is js : Row AnItem) (n m : Next) → broken ≡ pale →
      SameRow is js → p ≡ q → n ≡ m
      → Goes2 (SameStep (SameItems B B2)) (one_redirect inner broken p is n) (one_redirect inner pale q js m)
  redirect_at broken pale p q is js n m one two three four =
      rw (← three, ← four) (redirect_same broken pale p is js n one two)

  -- where the items so far are the same, they are so with one more, or none
  item_by_same : (i j : ItemsSoFar) (position : Option Position) → SameItems B B2 i j →
      Goes2 (SameStep (SameItems B B2)) (item_by inner i position) (item_by inner j position)
  item_by_same i j (Some position) same = one_item i j position same
  item_by_same i j None same =
      picks _ _ (ap (λ (k : Next). begins_redirect k.token) same.1.1)
      (redirect_at (breaks i) (breaks j) (after_redirect i.position)
      (after_redirect j.position) i.items j.items i.next j.next (breaks_same i j same) same.0
      (ap after_redirect same.1.0) same.1.1) (gives same)

  item_on : (i j : ItemsSoFar) → SameItems B B2 i j →
      Goes2 (SameStep (SameItems B B2)) (item_turn inner i) (item_turn inner j)
  unfolding item_turn
  item_on i j same =
      subst (λ (n : Next). Goes2 (SameStep (SameItems B B2)) (item_by inner i (after_word i.next.token))
      (item_by inner j (after_word n.token))) same.1.1 (item_by_same i j (after_word i.next.token) same)

  -- ---- commands

  -- A word's shape has its text, so that a name is the same there; compound commands are read as
  -- `InnerElsewhere` says.

  -- a simple command is read with the same shape in both texts
  simple_same : (i j : ItemsSoFar) → SameItems B B2 i j → Goes2 (SameCommand B B2) (a_simple inner i) (a_simple inner j)
  unfolding a_simple
  simple_same i j same = then (repeats (SameItems B B2) (item_turn inner) (item_turn inner) item_on i j same)
      (λ k l so. gives (rw (items_same B B2 k l so) refl, so.1.1))

  -- where the redirections after a compound command are the same so far, they are so with one more, or none
  redirect_on : (i j : ItemsSoFar) → SameItems B B2 i j →
      Goes2 (SameStep (SameItems B B2)) (redirect_turn inner i) (redirect_turn inner j)
  unfolding redirect_turn
  redirect_on i j same =
      picks _ _ (ap (λ (k : Next). begins_redirect k.token) same.1.1)
      (redirect_at _ _ Command Command i.items j.items i.next j.next
      (ap (λ (k : Next). k.broken) same.1.1) same.0 refl same.1.1) (gives same)

  -- commands of the same shape have it also with redirections of the same shapes
  with_same : (c d : ACommand) (is js : ItemsOf Span Span) → shape_of_command B c ≡ shape_of_command B2 d →
      shape_of_items B is ≡ shape_of_items B2 js
      → shape_of_command B (with_redirects c is) ≡ shape_of_command B2 (with_redirects d js)
  with_same (compound (formed f s xs)) (compound (formed k t ys)) is js one two = let form : shape_of_form B f
      ≡ shape_of_form B2 k = cc in rw (form, two) refl
  with_same (simple xs) (simple ys) is js one two = one
  with_same (function f es b) (function k fs e) is js one two = one
  with_same (compound b) (simple ys) is js one two = absurd cc
  with_same (compound b) (function k fs e) is js one two = absurd cc
  with_same (simple xs) (compound e) is js one two = absurd cc
  with_same (simple xs) (function k fs e) is js one two = absurd cc
  with_same (function f es b) (compound e) is js one two = absurd cc
  with_same (function f es b) (simple ys) is js one two = absurd cc

  -- a command with all redirections after it has the same shape in both texts
  with_redirect_list_same : (c d : ACommand × Next) → SameCommand B B2 c d →
      Goes2 (SameCommand B B2) (with_redirect_list inner c) (with_redirect_list inner d)
  unfolding with_redirect_list
  with_redirect_list_same c d same =
      then (repeats (SameItems B B2) (redirect_turn inner) (redirect_turn inner) redirect_on
      (items_so_far [] Command c.1)
      (items_so_far [] Command d.1) (refl, (refl, same.1)))
      (λ k l so. gives (
        with_same c.0 d.0 (items_of k.items) (items_of l.items) same.0
            (items_same B B2 k l so),
        so.1.1,
      ))

  -- a compound command is read with the same shape in both texts, where one opens
  pub compound_by_same : (n : Next) (c : Option Opener) →
      Goes2 (SameCommand B B2) (compound_by inner n c) (compound_by inner n c)
  compound_by_same n (Some c) = then (fine.compound c) with_redirect_list_same
  compound_by_same n None = stopped inner n

  -- words of the same shape have the same text
  name_same : (w v : AWord) → SameWord B B2 w v → text_at B (word_span w) ≡ text_at B2 (word_span v)
  name_same (word c ss) (word d zs) same = cc

  -- a function is read with the same shape in both texts, where both names are a NAME or none is
  named_function_same : (good pure : Bool) (w v : AWord) → good ≡ pure → SameWord B B2 w v →
      Goes2 (SameCommand B B2) (named_function inner good (word_span w)) (named_function inner pure (word_span v))
  named_function_same good pure w v is so =
      picks good pure is (fine.function (word_span w) (word_span v) (name_same w v so))
      (go_stop E o o2 B B2 stands stands_there)

  -- a command that begins with a word is read with the same shape in both texts, and so is any command
  word_command_same : Goes2 (SameCommand B B2) (a_word_command inner) (a_word_command inner)
  unfolding a_word_command
  word_command_same =
      then (go_see E o o2 B B2 stands stands_there {l = is_a_name} (λ s from e. same_name E e))
      (λ good pure is. then fine.word (λ w v so. then (next_same Suffix)
      (λ n m same. picks _ _ (ap (λ (k : Next). is_paren k.token) same) (named_function_same good pure w v is so)
      (then (pushes {S = λ is js. map (shape_of_item B) is ≡ map (shape_of_item B2) js}
      (rows_more (shape_of_item B) (shape_of_item B2) [] (item false (as_item Suffix w)) []
      (item false (as_item Suffix v)) refl (item_same Suffix false false w v refl so)))
      (λ is js all. simple_same (items_so_far is Suffix n) (items_so_far js Suffix m) (all, (refl, same)))))))

  command : (n m : Next) → n ≡ m → Goes2 (SameCommand B B2) (a_command inner n) (a_command inner m)
  unfolding a_command
  command n m same = at_same (a_command inner) (a_command inner) one n m same
    where
      one : (n : Next) → Goes2 (SameCommand B B2) (a_command inner n) (a_command inner n)
      one n =
          picks (is_word n.token) _ refl word_command_same
          (picks (begins_simple n.token) _ refl
          (simple_same (items_so_far [] Command n) (items_so_far [] Command n) (refl, (refl, refl)))
          (compound_by_same n (opener_of n.token)))

  -- ---- pipelines, and-or lists and entries

  -- Each turn adds a part of the same shape to rows of the same shapes.

  -- a `!` stands in both texts, or in none
  bang : (n : Next) → Goes2 (λ x y. (shape_of_bang x.0 ≡ shape_of_bang y.0) × (x.1 ≡ y.1)) (a_bang n) (a_bang n)
  unfolding a_bang
  bang n = picks (is_bang n.token) _ refl
      (then marks (λ x y all. then (next_same Command) (λ m k same. gives (refl, same)))) (gives (refl, refl))

  -- the commands after the first so far have the same shapes, with their joins, and the same token stands
  -- after them
  abbrev SamePipes : PipesSoFar → PipesSoFar → Type 0
  SamePipes p q = (map (pipe_shape B) p.parts ≡ map (pipe_shape B2) q.parts) × (p.next ≡ q.next)

  -- where the commands so far are the same, they are so with one more, and with one more or none
  one_more_command : (p q : PipesSoFar) → SamePipes p q →
      Goes2 (SameStep SamePipes) (one_command inner p) (one_command inner q)
  unfolding one_command
  one_more_command p q same =
      then marks (λ x y all. then (join_same p.next.broken q.next.broken (ap (λ (n : Next). n.broken) same.1))
      (λ j k so. then (command j.1 k.1 so.1)
      (λ c d is. then (pushes {S = λ ps qs. map (pipe_shape B) ps ≡ map (pipe_shape B2) qs}
      (rows_more (pipe_shape B) (pipe_shape B2) p.parts _ q.parts _ same.0 (rw (so.0, is.0) refl)))
      (λ ps qs row. gives (row, is.1)))))

  pipe_on : (p q : PipesSoFar) → SamePipes p q → Goes2 (SameStep SamePipes) (pipe_turn inner p) (pipe_turn inner q)
  unfolding pipe_turn
  pipe_on p q same = picks _ _ (ap (λ (n : Next). is_pipe n.token) same.1) (one_more_command p q same) (gives same)

  -- a pipeline is read with the same shape in both texts
  pipeline_same : (n m : Next) → n ≡ m →
      Goes2 (λ x y. (shape_of_pipeline B x.0 ≡ shape_of_pipeline B2 y.0) × (x.1 ≡ y.1)) (a_pipeline inner n)
      (a_pipeline inner m)
  unfolding a_pipeline
  pipeline_same n m same = at_same (a_pipeline inner) (a_pipeline inner) one n m same
    where
      pipes_same : (p q : PipesSoFar) → SamePipes p q →
          shape_of_pipes B (pipeline_parts_of p.parts) ≡ shape_of_pipes B2 (pipeline_parts_of q.parts)
      pipes_same p q same = pipes_shape B p.parts ∙ ap pipeline_parts_of same.0 ∙ sym (pipes_shape B2 q.parts)

      one : (n : Next) → Goes2 (λ x y. (shape_of_pipeline B x.0 ≡ shape_of_pipeline B2 y.0) × (x.1 ≡ y.1))
          (a_pipeline inner n) (a_pipeline inner n)
      one n =
          then (bang n) (λ b d so. then (command b.1 d.1 so.1)
          (λ c e is. then (repeats SamePipes (pipe_turn inner) (pipe_turn inner) pipe_on (pipes_so_far [] c.1)
          (pipes_so_far [] e.1) (refl, is.1))
          (λ p q same. gives (rw (so.0, is.0, pipes_same p q same) refl, same.1))))

  -- the pipelines after the first so far have the same shapes, with their joins, and the same token stands
  -- after them
  abbrev SameParts : AndOrSoFar → AndOrSoFar → Type 0
  SameParts x y = (map (part_shape B) x.parts ≡ map (part_shape B2) y.parts) × (x.next ≡ y.next)

  -- where the pipelines so far are the same, they are so with one more, and with one more or none
  one_more_pipeline : (x y : AndOrSoFar) (c : AndOrOperator) → SameParts x y →
      Goes2 (SameStep SameParts) (one_pipeline inner x c) (one_pipeline inner y c)
  unfolding one_pipeline
  one_more_pipeline x y c same =
      then two_marks (λ u v all. then (join_same x.next.broken y.next.broken (ap (λ (n : Next). n.broken) same.1))
      (λ j k so. then (pipeline_same j.1 k.1 so.1)
      (λ p q is. then (pushes {S = λ ps qs. map (part_shape B) ps ≡ map (part_shape B2) qs}
      (rows_more (part_shape B) (part_shape B2) x.parts _ y.parts _ same.0 (rw (so.0, is.0) refl)))
      (λ ps qs row. gives (row, is.1)))))

  joined_by_same : (x y : AndOrSoFar) (c : Option AndOrOperator) → SameParts x y →
      Goes2 (SameStep SameParts) (joined_by inner x c) (joined_by inner y c)
  joined_by_same x y (Some c) same = one_more_pipeline x y c same
  joined_by_same x y None same = gives same

  part_on : (x y : AndOrSoFar) → SameParts x y →
      Goes2 (SameStep SameParts) (and_or_turn inner x) (and_or_turn inner y)
  unfolding and_or_turn
  part_on x y same =
      subst (λ (n : Next). Goes2 (SameStep SameParts) (joined_by inner x (and_or_operator_of x.next.token))
      (joined_by inner y (and_or_operator_of n.token))) same.1
      (joined_by_same x y (and_or_operator_of x.next.token) same)

  -- an and-or list is read with the same shape in both texts
  and_or_same : (n m : Next) → n ≡ m →
      Goes2 (λ x y. (shape_of_and_or B x.0 ≡ shape_of_and_or B2 y.0) × (x.1 ≡ y.1)) (an_and_or inner n)
      (an_and_or inner m)
  unfolding an_and_or
  and_or_same n m same = at_same (an_and_or inner) (an_and_or inner) one n m same
    where
      parts_same : (x y : AndOrSoFar) → SameParts x y →
          shape_of_and_or_parts B (and_or_parts_of x.parts) ≡ shape_of_and_or_parts B2 (and_or_parts_of y.parts)
      parts_same x y same = parts_shape B x.parts ∙ ap and_or_parts_of same.0 ∙ sym (parts_shape B2 y.parts)

      one : (n : Next) → Goes2 (λ x y. (shape_of_and_or B x.0 ≡ shape_of_and_or B2 y.0) × (x.1 ≡ y.1))
          (an_and_or inner n) (an_and_or inner n)
      one n =
          then (pipeline_same n n refl)
          (λ p q so. then (repeats SameParts (and_or_turn inner) (and_or_turn inner) part_on
          (and_or_so_far [] p.1) (and_or_so_far [] q.1) (refl, so.1))
          (λ x y same. gives (rw (so.0, parts_same x y same) refl, same.1)))

  -- an entry is read with the same shape in both texts, with its separator and its comment
  pub entry_same : (blank pale : Bool) (n m : Next) → blank ≡ pale → n ≡ m →
      Goes2 (SameEntered B B2) (an_entry inner blank n) (an_entry inner pale m)
  unfolding an_entry
  entry_same blank pale n m is same =
      then (and_or_same n m same) (λ x y so.
      then (separator_same x.1 y.1 so.1) (λ s z parts. then (comment_at_same s.1 z.1 parts.1.1)
      (λ c d text. gives (entered (x.0) (y.0) s z c d so.0 parts text))))
    where
      entered : (x y : _) (s z : Option ASeparator × Next) (c d : Option Span × Next) →
          shape_of_and_or B x ≡ shape_of_and_or B2 y → SameSeparator s z → SameRemark B B2 c d
          → SameEntered B B2 (record {
            entry = entry (Rattle.shast.specs.Tree.command x) (is_background s.0) blank c.0;
            parted = past_separator s.0;
            next = c.1;
          })
          (record {
            entry = entry (Rattle.shast.specs.Tree.command y) (is_background z.0) pale d.0;
            parted = past_separator z.0;
            next = d.1;
          })
      entered x y s z c d one two three = (rw (one, two.0, is, three.0) refl, (two.1.0, three.1))
