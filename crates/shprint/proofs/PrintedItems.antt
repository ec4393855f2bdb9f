-- The items of a command: what is printed for them is read as the same items, and what is printed for a
-- simple command as that command.
use Rattle.std.proofs.Common.{◌≡◌, ℕ, ◌+◌, ◌<◌, ⊎_elim, Bool, true, false, not, List, List as Row, [], ◌∷◌, ◌++◌, length, drop, codes, Option, Some, None, is_some, refl, sym, ap, subst, ◌∙◌, arith, append_assoc, append-nil}
use Rattle.std.proofs.lemmas.Bool.{both_ways, not-true}
use Rattle.shgrammar.specs.declared.edition.Edition.{Edition}
use Rattle.shgrammar.specs.declared.token.Next.{Next}
use Rattle.shgrammar.specs.declared.token.Position.{Position}
use Rattle.shgrammar.specs.declared.token.Position.TheVariants.{Command, Prefix, Suffix}
use Rattle.shgrammar.specs.declared.token.Token.{Token}
use Rattle.shgrammar.specs.declared.token.Token.TheVariants as tokens
use Rattle.shgrammar.specs.Characters.{backslash, newline_char, space}
use Rattle.shgrammar.specs.Bytes.{past_blanks}
use Rattle.shgrammar.specs.Sights.{is_a_name}
use Rattle.shgrammar.specs.Form.{Form, Step, leads_on, again, done, many}
use Rattle.shgrammar.specs.Levels.{level}
use Rattle.shast.specs.Normal.{first_not_broken}
use Rattle.shgrammar.specs.Compounds.{word_turn}
use Rattle.shgrammar.specs.Commands.{a_command, begins_simple, is_empty, ItemsSoFar, after_word, begins_redirect, after_redirect, redirect_turn, items_so_far, breaks, as_item, an_item, item_turn, a_simple, is_word, is_paren, a_word_command}
use Rattle.shgrammar.proofs.MovedTrees.{pushed_some}
use Rattle.shgrammar.proofs.Places.{blanks_low}
use Rattle.shgrammar.proofs.WordsAnywhere.{WordOf}
use Rattle.shast.specs.Opened.{item_bodies, item_content_bodies, items_bodies, command_bodies, open_item, open_item_content, open_items, open_command}
use Rattle.shast.specs.declared.tree.RedirectOperator.{RedirectOperator}
use Rattle.shgrammar.proofs.ItemsAnywhere.{follows, item_is_word, ItemAnywhere}
use Rattle.shast.specs.Shape.{Text, Shape, shape_of_items, shape_of_item, shape_of_command, shape_of_word}
use Rattle.shast.specs.Tree.{AHereOf, AWordOf, AnItemOf, AnItem, AWord, item, items_of, ItemsOf, no_item, more_items, simple, SubstsOf, word, argument}
use Rattle.shprint.specs.declared.layout.Layout.{Layout}
use Rattle.shprint.specs.Marks.{text, Marks, laid_after, one, deeper}
use Rattle.shprint.specs.Printed.{print_gap, is_broken_item, print_item, print_items, print_simple}
use Rattle.shprint.proofs.Tokens.{past_text_stands, Gap, Start, all_blank, blank_gap, broken_gap, no_gap, next_one, kind_of, item_no_round, no_word, no_item_token, redirect_is_item, redirect_no_word}
use Rattle.shprint.proofs.Gives.{Gives, ◌⟫◌, given_here, seen_here, pushed_here, first_of, second_of, last_turn, one_turn}
use Rattle.shprint.proofs.Held.{At, Followed, Held, StandsIn, g, held_bytes, lay, state}
use Rattle.shprint.proofs.Good.{Kind, of_command, of_for, of_compound, GoodItem, of_word, of_argument, of_redirect, of_redirect_after, a_redirect_of, GoodItems, none_more, one_more, GoodSimple, SomeItem, an_item_of}
use Rattle.shprint.proofs.PrintedText.{laid_text, AddsBodies, at_text, leads, edition_token, edition_next, edition_next_after, edition_same, edition_word, next_read, some_word, NoItemAfter, RowRead, printed_word}
use Rattle.shprint.proofs.PrintedRedirects.{RedirectRead, redirect_there, redirect_read}

-- ---- items as they are printed

-- a word is printed as its text, whatever item it is
item_printed : (y : Layout) (b : Bool) (position : Position) (t : Text) (ss : Shape SubstsOf) →
    print_item y (an_item_of b position (word t ss)) ≡ text t ∷ []
item_printed y b Command t ss = refl
item_printed y b Prefix t ss = refl
item_printed y b Suffix t ss = refl

-- what is printed of items, by the first one
more_printed : (y : Layout) (m : Text) (i : Shape AnItemOf) (is : Shape ItemsOf) (rest : Marks)
    → print_items y m (more_items i is) ++ rest ≡ print_gap y m (is_broken_item i)
    ++ (print_item y i ++ (print_items y m is ++ rest))
more_printed y m i is rest =
    let gap = print_gap y m (is_broken_item i) in
    let others = print_items y m is in
    append_assoc (gap ++ print_item y i) others rest ∙ append_assoc gap (print_item y i) (others ++ rest)

-- a gap may follow an item
gap_follows : (y : Layout) (m : Text) (b : Bool) (ms : Marks) → Followed (print_gap y m b ++ ms)
unfolding laid_after
gap_follows y m true ms held = refl
gap_follows y m false ms held = refl

-- so may what is printed of items
pub items_follow : (y : Layout) (m : Text) (is : Shape ItemsOf) (rest : Marks) → Followed rest →
    Followed (print_items y m is ++ rest)
items_follow y m no_item rest follow held = follow held
items_follow y m (more_items i is) rest follow held =
    ap (λ ms. follows (laid_after held ms)) (more_printed y m i is rest)
    ∙ gap_follows y m (is_broken_item i) (print_item y i ++ (print_items y m is ++ rest)) held

module _ {edition : Edition} {B T : List ℕ} {o : ℕ} (S : StandsIn edition B T o) (room : ℕ) where
  -- ---- one item

  -- the turn that reads one more item of a kind
  abbrev turn_of : Kind → ItemsSoFar → Form (Step ItemsSoFar)
  turn_of of_command = item_turn (level room)
  turn_of of_for = word_turn (level room)
  turn_of of_compound = redirect_turn (level room)

  -- whether that item is broken
  abbrev broken_by : Kind → ItemsSoFar → Bool
  broken_by of_command i = breaks i
  broken_by of_for i = breaks i
  broken_by of_compound i = i.next.broken

  -- the same item, broken or not
  abbrev with_broken : Bool → Shape AnItemOf → Shape AnItemOf
  with_broken broken (item b what) = item broken what

  same_broken : (i : Shape AnItemOf) → with_broken (is_broken_item i) i ≡ i
  same_broken (item b what) = refl

  -- what is read of an item, with the token after it
  pub record ItemRead (h : Held) (kind : Kind) (acc : Row AnItem) (position : Position) (n : Next) (p : ℕ)
      (next : Position) (i : Shape AnItemOf) (rest : Marks) : Type 0 where
    pub it : AnItem
    pub «end» : ℕ
    pub later : Held
    pub at : At S later «end» rest
    pub reads : Gives (g S) (turn_of kind (items_so_far acc position n)) (state h p)
        (again (items_so_far (acc ++ it ∷ []) next (edition_next S next «end»))) (state later (past_blanks T «end»))
    pub on : leads_on (g S) (state h p) (state later (past_blanks T «end»)) ≡ true
    pub is : shape_of_item B it ≡ open_item [] (with_broken (broken_by kind (items_so_far acc position n)) i)
    pub texts : AddsBodies S h later (item_bodies i)

  -- the shape of an item that is a word
  item_shape : (position : Position) (b : Bool) (v : AWord) (w : Shape AWordOf) → shape_of_word B v ≡ w →
      shape_of_item B (item b (as_item position v)) ≡ open_item [] (an_item_of b position w)
  unfolding open_item open_item_content
  item_shape Command b v w is = rw is refl
  item_shape Prefix b v w is = rw is refl
  item_shape Suffix b v w is = rw is refl

  -- it adds no body
  word_adds : (h : Held) (b : Bool) (position : Position) (w : Shape AWordOf) →
      AddsBodies S h h (item_bodies (an_item_of b position w))
  unfolding item_bodies item_content_bodies
  word_adds h b Command w ts = refl
  word_adds h b Prefix w ts = refl
  word_adds h b Suffix w ts = refl

  -- an item that is a word, broken or not
  broken_item : (b c : Bool) (position : Position) (w : Shape AWordOf) →
      an_item_of b position w ≡ with_broken b (an_item_of c position w)
  broken_item b c Command w = refl
  broken_item b c Prefix w = refl
  broken_item b c Suffix w = refl

  -- a word as an item
  word_item : (h : Held) (next : Position) (w : Text) (ss : Shape SubstsOf) (acc : Row AnItem) (place : Position)
      (n : Next) (p : ℕ) (v : WordOf room (g S) p (length w) B (word w ss))
      → Gives (g S) (an_item (level room) (items_so_far acc place n) next) (state h p)
      (again (items_so_far (acc ++ item (breaks (items_so_far acc place n)) (as_item next v.0) ∷ []) next
      (edition_next S next (p + length w)))) (state h (past_blanks T (p + length w)))
  unfolding an_item
  word_item h next w ss acc place n p v =
      printed_word S room h w ss p v ⟫ pushed_here acc _ ⟫ next_read S h next (p + length w) ⟫ given_here

  -- its turn leads on
  word_on : (h : Held) (w : Text) (p : ℕ) (rest : Marks) → 0 < length w → At S h p (text w ∷ rest) →
      leads_on (g S) (state h p) (state h (past_blanks T (p + length w))) ≡ true
  word_on h w p rest some at =
      let low = blanks_low T (p + length w) in
      leads S h h p (past_blanks T (p + length w)) (omega (arith, some, low))
      (some_word S p w (lay h rest) some (at ∙ laid_text h w rest))

  -- ---- items of each kind

  -- a word that is an item begins a simple command
  item_begins : (t : Token) (position : Position) → after_word t ≡ Some position → begins_simple t ≡ true
  item_begins t position e = rw e refl

  -- where an item is printed
  pub record ItemThere (position : Position) (p : ℕ) : Type 0 where
    pub start : Start T p
    pub begins : begins_simple (edition_token S position p) ≡ true

  -- so does a word where it is printed
  word_there : (h : Held) (position next : Position) (token : Token) (w : Text) (ss : Shape SubstsOf) →
      after_word token ≡ Some next → ItemAnywhere edition room position token w ss → (p : ℕ) (rest : Marks) →
      Followed rest
      → At S h p (text w ∷ rest) → ItemThere position p
  word_there h position next token w ss some good p rest follow at =
      let found = good.there (g S) p (lay h rest) (at ∙ laid_text h w rest) (follow (held_bytes h.waiting)) in
      record {
        start = record { place = found.place; no_blank = found.no_blank };
        begins = ap begins_simple (edition_word S (item_is_word token (ap is_some some)) found.token_is)
            ∙ item_begins token next some;
      }

  -- so does each item
  pub item_there : (h : Held) {kind : Kind} {position next : Position} {i : Shape AnItemOf} (y : Layout) →
      GoodItem edition room kind position i next → (p : ℕ) (rest : Marks) → Followed rest →
      At S h p (print_item y i ++ rest)
      → ItemThere position p
  item_there h y (of_word {position = position} {next = next} {token = token} {broken = b} {t = t}
      {ss = ss} some good) p rest follow at =
      word_there h position next token t ss some good p rest follow
      (at ∙ ap (λ ms. lay h (ms ++ rest)) (item_printed y b next t ss))
  item_there h y (of_argument {broken = b} {t = t} {ss = ss} good) p rest follow at =
      word_there h Suffix Suffix tokens.Word t ss refl good p rest follow at
  item_there h y (of_redirect {position = position} {broken = b} {number = number} {o = k} {t = t} {ss = ss}
      {h = doc} good) p rest follow at =
      let r = redirect_there S room y number k t ss doc good rest follow h position b p at in
      record { start = r.start; begins = redirect_is_item (edition_token S position p) r.redirect }
  item_there h y (of_redirect_after {broken = b} {number = number} {o = k} {t = t} {ss = ss} {h = doc} good) p rest
      follow at =
      let r = redirect_there S room y number k t ss doc good rest follow h Command b p at in
      record { start = r.start; begins = redirect_is_item (edition_token S Command p) r.redirect }

  -- a word of a simple command is read as what its token tells, an assignment or an argument
  word_read : (h : Held) (position next : Position) (token : Token) (b : Bool) (w : Text) (ss : Shape SubstsOf)
      (acc : Row AnItem) (n : Next) (p : ℕ) (rest : Marks) → after_word token ≡ Some next →
      ItemAnywhere edition room position token w ss → n.token ≡ edition_token S position p → Followed rest →
      At S h p (text w ∷ rest)
      → ItemRead h of_command acc position n p next (an_item_of b next (word w ss)) rest
  unfolding item_turn an_item
  word_read h position next token b w ss acc n p rest some good token_is follow at =
      let found = good.there (g S) p (lay h rest) (at ∙ laid_text h w rest) (follow (held_bytes h.waiting)) in
      let v = found.word B (sym S.here) in
      let is_here : n.token ≡ token = token_is ∙ edition_word S (item_is_word token (ap is_some some)) found.token_is in
      record {
        it = item (breaks (items_so_far acc position n)) (as_item next v.0);
        «end» = p + length w;
        later = h;
        at = at_text S h p w rest at;
        reads = rw (is_here, some) (word_item h next w ss acc position n p v);
        on = word_on h w p rest good.some at;
        is = item_shape next _ v.0 (word w ss) v.1.1
            ∙ ap (λ i. open_item [] i) (broken_item (breaks (items_so_far acc position n)) b next (word w ss));
        texts = word_adds h b next (word w ss);
      }

  -- a word of a `for` is read as an argument
  argument_read : (h : Held) (b : Bool) (w : Text) (ss : Shape SubstsOf) (acc : Row AnItem) (n : Next) (p : ℕ)
      (rest : Marks) → ItemAnywhere edition room Suffix tokens.Word w ss → n.token ≡ edition_token S Suffix p →
      Followed rest → At S h p (text w ∷ rest)
      → ItemRead h of_for acc Suffix n p Suffix (an_item_of b Suffix (word w ss)) rest
  unfolding word_turn
  argument_read h b w ss acc n p rest good token_is follow at =
      let found = good.there (g S) p (lay h rest) (at ∙ laid_text h w rest) (follow (held_bytes h.waiting)) in
      let v = found.word B (sym S.here) in
      record {
        it = item (breaks (items_so_far acc Suffix n)) (as_item Suffix v.0);
        «end» = p + length w;
        later = h;
        at = at_text S h p w rest at;
        reads = first_of _ _ (ap is_word (token_is ∙ edition_same S found.token_is))
            (word_item h Suffix w ss acc Suffix n p v);
        on = word_on h w p rest good.some at;
        is = item_shape Suffix _ v.0 (word w ss) v.1.1;
        texts = word_adds h b Suffix (word w ss);
      }

  -- a redirection is read as an item where the turn of the items comes to it
  redirect_item : (h : Held) (kind : Kind) (acc : Row AnItem) (position next : Position) (n : Next) (p : ℕ)
      (b : Bool) (number : Option Text) (k : RedirectOperator) (t : Text) (ss : Shape SubstsOf)
      (doc : Option (AHereOf Text)) (rest : Marks)
      (r : RedirectRead S room h (broken_by kind (items_so_far acc position n)) acc next n p
      (a_redirect_of (broken_by kind (items_so_far acc position n)) number k t ss doc) rest)
      → Gives (g S) (turn_of kind (items_so_far acc position n)) (state h p)
      (again (items_so_far (acc ++ r.it ∷ []) next (edition_next S next r.«end»)))
      (state r.later (past_blanks T r.«end»))
      → ItemRead h kind acc position n p next (a_redirect_of b number k t ss doc) rest
  unfolding item_bodies item_content_bodies
  redirect_item h kind acc position next n p b number k t ss doc rest r turned = record {
    it = r.it;
    «end» = r.«end»;
    later = r.later;
    at = r.at;
    reads = turned;
    on = r.on;
    is = r.is;
    texts = r.texts;
  }

  -- each item is read where it is printed
  pub item_read : (h : Held) {kind : Kind} {position next : Position} {i : Shape AnItemOf} (y : Layout) →
      GoodItem edition room kind position i next → (acc : Row AnItem) (n : Next) (p : ℕ) (rest : Marks) →
      n.token ≡ edition_token S position p
      → Followed rest → At S h p (print_item y i ++ rest) → ItemRead h kind acc position n p next i rest
  unfolding item_turn redirect_turn
  item_read h y (of_word {position = position} {next = next} {token = token} {broken = b} {t = w} {ss = ss} some good)
      acc n p rest token_is follow at =
      word_read h position next token b w ss acc n p rest some good token_is follow
      (at ∙ ap (λ ms. lay h (ms ++ rest)) (item_printed y b next w ss))
  item_read h y (of_argument {broken = b} {t = w} {ss = ss} good) acc n p rest token_is follow at =
      argument_read h b w ss acc n p rest good token_is follow at
  item_read h y (of_redirect {position = position} {broken = b} {number = number} {o = k} {t = t} {ss = ss}
      {h = doc} good) acc n p rest token_is follow at =
      let there = redirect_there S room y number k t ss doc good rest follow h position b p at in
      let r = redirect_read S room y number k t ss doc good rest follow h position
      (breaks (items_so_far acc position n)) b
      acc (after_redirect position) n p token_is at in
      let none : after_word n.token ≡ None = ap after_word token_is ∙ there.no_word in
      let begins : begins_redirect n.token ≡ true = ap begins_redirect token_is ∙ there.redirect in
      redirect_item h of_command acc position (after_redirect position) n p b number k t ss doc rest r
      (rw none (first_of _ _ begins r.reads))
  item_read h y (of_redirect_after {broken = b} {number = number} {o = k} {t = t} {ss = ss} {h = doc} good) acc n p
      rest token_is follow at =
      let there = redirect_there S room y number k t ss doc good rest follow h Command b p at in
      let r = redirect_read S room y number k t ss doc good rest follow h Command n.broken b acc Command n p token_is
      at in
      let begins : begins_redirect n.token ≡ true = ap begins_redirect token_is ∙ there.redirect in
      redirect_item h of_compound acc Command Command n p b number k t ss doc rest r (first_of _ _ begins r.reads)

  -- the shape of items
  abbrev Shapes : Row AnItem → Shape ItemsOf
  Shapes is = shape_of_items B (items_of is)

  -- ---- items after others

  -- what is read of them, with the token after the last one
  pub record ItemsRead (h : Held) (kind : Kind) (acc : Row AnItem) (position : Position) (n : Next) (p : ℕ)
      (last : Position) (is : Shape ItemsOf) (rest : Marks) : Type 0 where
    pub more_items_read : Row AnItem
    pub «end» : ℕ
    pub later : Held
    pub at : At S later «end» rest
    pub reads : Gives (g S) (many (turn_of kind) (items_so_far acc position n)) (state h p)
        (items_so_far (acc ++ more_items_read) last (edition_next S Command «end»)) (state later (past_blanks T «end»))
    pub shape : Shapes more_items_read ≡ open_items [] is
    pub texts : AddsBodies S h later (items_bodies is)

  -- one more item before others
  items_on : (h : Held) {kind : Kind} {acc : Row AnItem} {position : Position} {n : Next} {p : ℕ}
      {next last : Position} {i : Shape AnItemOf} {is : Shape ItemsOf} {ms rest : Marks}
      (one : ItemRead h kind acc position n p next i ms)
      → broken_by kind (items_so_far acc position n) ≡ is_broken_item i →
      ItemsRead one.later kind (acc ++ one.it ∷ []) next (edition_next S next one.«end»)
      (past_blanks T one.«end») last is rest
      → ItemsRead h kind acc position n p last (more_items i is) rest
  unfolding open_items items_bodies
  items_on h {kind = kind} {acc = acc} {position = position} {n = n} {p = p} {last = last} {i = i}
      {is = is} one same others = record {
        more_items_read = one.it ∷ others.more_items_read;
        «end» = others.«end»;
        later = others.later;
        at = others.at;
        reads = subst (λ is. Gives (g S) (many (turn_of kind) (items_so_far acc position n)) (state h p)
            (items_so_far is last (edition_next S Command others.«end»))
            (state others.later (past_blanks T others.«end»)))
            (append_assoc acc (one.it ∷ []) others.more_items_read)
            (one_turn (turn_of kind) one.reads one.on others.reads);
        shape = ap2 (one.is ∙ ap (λ b. open_item [] (with_broken b i)) same
            ∙ ap (λ i. open_item [] i) (same_broken i))
            others.shape;
        texts = λ ts. others.texts ts ∙ one.texts (items_bodies is ts);
      }
    where
      ap2 : {i j : Shape AnItemOf} {is js : Shape ItemsOf} → i ≡ j → is ≡ js → more_items i is ≡ more_items j js
      ap2 e f = rw (e, f) refl

  -- no more item
  item_stops : (h : Held) (kind : Kind) (acc : Row AnItem) (position : Position) (n : Next) (p : ℕ) →
      begins_simple n.token ≡ false →
      Gives (g S) (turn_of kind (items_so_far acc position n)) (state h p) (done (items_so_far acc position n))
      (state h p)
  unfolding item_turn word_turn redirect_turn
  item_stops h of_command acc position n p none = let no = no_item_token n.token none in
      rw (no.after, no.redirect) given_here
  item_stops h of_for acc position n p none = second_of _ _ (no_item_token n.token none).word given_here
  item_stops h of_compound acc position n p none = second_of _ _ (no_item_token n.token none).redirect given_here

  -- none is read where no item stands
  no_items_on : (h : Held) (kind : Kind) (acc : Row AnItem) (position : Position) (n : Next) (e : ℕ) (rest : Marks) →
      At S h e rest → edition_next S Command e ≡ n → begins_simple n.token ≡ false
      → ItemsRead h kind acc position n (past_blanks T e) position no_item rest
  unfolding open_items items_bodies
  no_items_on h kind acc position n e rest at same none = record {
    more_items_read = [];
    «end» = e;
    later = h;
    at = at;
    reads = rw (append-nil acc, same)
        (last_turn (turn_of kind) (item_stops h kind acc position n (past_blanks T e) none));
    shape = refl;
    texts = λ ts. refl;
  }

  -- ---- gaps between items

  -- after a printed gap an item may begin
  pub record GapRead (h : Held) (e : ℕ) (broken : Bool) (ms : Marks) : Type 0 where
    pub p : ℕ
    pub at : At S h p ms
    pub gap : Start T p → Gap T e p broken

  -- a space, or a continuation and a margin
  pub gap_read : (h : Held) (y : Layout) (m : Text) (broken : Bool) (e : ℕ) (ms : Marks) →
      all_blank (deeper y m) ≡ true → (c : ℕ) (cs : Text) → deeper y m ≡ c ∷ cs → At S h e (print_gap y m broken ++ ms)
      → GapRead h e broken ms
  gap_read h y m false e ms blank c cs is at =
      let there = at ∙ laid_text h (codes " ") ms in
      record { p = e + 1; at = next_one T e space (lay h ms) there; gap = λ s. blank_gap refl there (no_gap s) }
  gap_read h y m true e ms blank c cs is at =
      let there : drop e T ≡ space ∷ backslash ∷ newline_char ∷ c ∷ (cs ++ lay h ms) =
      at ∙ laid_text h (codes " \\\n") (text (deeper y m) ∷ ms)
      ∙ ap (λ z. space ∷ backslash ∷ newline_char ∷ z) (laid_text h (deeper y m) ms ∙ ap (λ z. z ++ lay h ms) is) in
      let n : e + length (space ∷ backslash ∷ newline_char ∷ c ∷ cs) ≡ e + 3 + length (c ∷ cs) = omega arith in
      record {
        p = e + 3 + length (c ∷ cs);
        at = subst (λ q. drop q T ≡ lay h ms) n
            (past_text_stands T e (space ∷ backslash ∷ newline_char ∷ c ∷ cs) (lay h ms) there);
        gap = broken_gap T e c cs (lay h ms) (subst (λ z. all_blank z ≡ true) is blank) there;
      }

  -- ---- all items

  -- the first item is not broken, where it stands after no other one
  abbrev Unbroken : Kind → Row AnItem → Shape ItemsOf → Type 0
  Unbroken of_command acc is = is_empty acc ≡ true → first_not_broken is ≡ true
  Unbroken of_for acc is = is_empty acc ≡ true → first_not_broken is ≡ true
  Unbroken of_compound acc is = Unit {0}

  -- an item is broken as its token is, where a first one is not
  breaks_by : (acc : Row AnItem) (position : Position) (n : Next) (b : Bool) → (is_empty acc ≡ true → not b ≡ true) →
      n.broken ≡ b → breaks (items_so_far acc position n) ≡ b
  breaks_by [] position n b none is = sym (not-true b (none refl))
  breaks_by (i ∷ is) position n b none same = same

  -- a printed item is broken as the shape has it
  broken_is : (kind : Kind) (acc : Row AnItem) (position : Position) (n : Next) (i : Shape AnItemOf)
      (is : Shape ItemsOf) → Unbroken kind acc (more_items i is) → n.broken ≡ is_broken_item i
      → broken_by kind (items_so_far acc position n) ≡ is_broken_item i
  broken_is of_command acc position n (item b what) is first same = breaks_by acc position n b first same
  broken_is of_for acc position n (item b what) is first same = breaks_by acc position n b first same
  broken_is of_compound acc position n (item b what) is first same = same

  -- after an item none is the first
  unbroken_on : (kind : Kind) (acc : Row AnItem) (i : AnItem) (is : Shape ItemsOf) → Unbroken kind (acc ++ i ∷ []) is
  unbroken_on of_command acc i is = λ e. absurd (both_ways (is_empty (acc ++ i ∷ [])) (pushed_some acc i) e)
  unbroken_on of_for acc i is = λ e. absurd (both_ways (is_empty (acc ++ i ∷ [])) (pushed_some acc i) e)
  unbroken_on of_compound acc i is = tt

  -- the first one is not broken
  first_item : (b : Bool) (position : Position) (w : Shape AWordOf) (is : Shape ItemsOf) →
      first_not_broken (more_items (an_item_of b position w) is) ≡ true → b ≡ false
  first_item b Command w is first = not-true b first
  first_item b Prefix w is first = not-true b first
  first_item b Suffix w is first = not-true b first

  module _ (y : Layout) (m : Text) (c : ℕ) (cs : Text) (blank : all_blank (deeper y m) ≡ true)
      (some_margin : deeper y m ≡ c ∷ cs)
      (rest : Marks) (follow : Followed rest) (after_it : (h : Held) (e : ℕ) → At S h e rest → NoItemAfter S e) where
    -- the next item, after a gap
    record NextItem (h : Held) (position : Position) (i : Shape AnItemOf) (is : Shape ItemsOf) (e : ℕ) : Type 0 where
      at : At S h (past_blanks T e) (print_item y i ++ (print_items y m is ++ rest))
      broken : (edition_next S position e).broken ≡ is_broken_item i
      begins : begins_simple (edition_next S position e).token ≡ true

    -- it stands after its gap
    next_item : (h : Held) {kind : Kind} {position next : Position} {i : Shape AnItemOf} (is : Shape ItemsOf) (e : ℕ)
        → GoodItem edition room kind position i next → At S h e (print_items y m (more_items i is) ++ rest) →
        NextItem h position i is e
    next_item h {position = position} {i = i} is e one at =
        let ms = print_item y i ++ (print_items y m is ++ rest) in
        let gap = gap_read h y m (is_broken_item i) e ms blank c cs some_margin
        (at ∙ ap (lay h) (more_printed y m i is rest)) in
        let there = item_there h y one gap.p (print_items y m is ++ rest) (items_follow y m is rest follow) gap.at in
        let passed = gap.gap there.start in
        record {
          at = subst (λ q. At S h q ms) (sym passed.blanks) gap.at;
          broken = passed.breaks;
          begins = ap (λ (n : Next). begins_simple n.token) (edition_next_after S position passed) ∙ there.begins;
        }

    -- they are read, up to what stands after them
    pub items_read : {kind : Kind} (h : Held) {position last : Position} {is : Shape ItemsOf} →
        GoodItems edition room kind position is last → (acc : Row AnItem) (e : ℕ) → Unbroken kind acc is
        → At S h e (print_items y m is ++ rest) →
        ItemsRead h kind acc position (edition_next S position e) (past_blanks T e) last is rest
    items_read {kind = kind} h {position = position} none_more acc e first at =
        let b = after_it h e at in
        no_items_on h kind acc position (edition_next S position e) e rest at
        (b.seen_as Command ∙ sym (b.seen_as position))
        (ap (λ (n : Next). begins_simple n.token) (b.seen_as position) ∙ b.no_item)
    items_read {kind = kind} h {position = position} (one_more {i = i} {is = is} good others) acc e first at =
        let it = next_item h is e good at in
        let n = edition_next S position e in
        let one = item_read h y good acc n (past_blanks T e) (print_items y m is ++ rest) refl
        (items_follow y m is rest follow) it.at in
        items_on h one (broken_is kind acc position n i is first it.broken)
        (items_read one.later others (acc ++ one.it ∷ []) one.«end» (unbroken_on kind acc one.it is) one.at)

    -- what is printed of a simple command, by its first item
    simple_printed : (i : Shape AnItemOf) (is : Shape ItemsOf) →
        print_simple y m (more_items i is) ++ rest ≡ print_item y i ++ (print_items y m is ++ rest)
    simple_printed i is = append_assoc (print_item y i) (print_items y m is) rest

    -- its first item is not broken
    first_unbroken : (n : Next) (i : Shape AnItemOf) (is : Shape ItemsOf) → first_not_broken (more_items i is) ≡ true
        → broken_by of_command (items_so_far [] Command n) ≡ is_broken_item i
    first_unbroken n (item b what) is first = sym (not-true b first)

    -- all items of a simple command, and the token after them
    simple_items : (h : Held) {last : Position} {is : Shape ItemsOf} (n : Next) (p : ℕ) →
        GoodItems edition room of_command Command is last → SomeItem is → first_not_broken is ≡ true →
        n.token ≡ edition_token S Command p
        → At S h p (print_simple y m is ++ rest) → ItemsRead h of_command [] Command n p last is rest
    simple_items h n p none_more some first token_is at = absurd some
    simple_items h n p (one_more {i = i} {is = is} good others) some first token_is at =
        let there = at ∙ ap (lay h) (simple_printed i is) in
        let one = item_read h y good [] n p (print_items y m is ++ rest) token_is
        (items_follow y m is rest follow) there in
        items_on h one (first_unbroken n i is first)
        (items_read one.later others (one.it ∷ []) one.«end» (λ e. absurd cc) one.at)

    -- a simple command
    pub simple_read : (h : Held) (is : Shape ItemsOf) (n : Next) (p : ℕ) → GoodSimple edition room is →
        first_not_broken is ≡ true → n.token ≡ edition_token S Command p → At S h p (print_simple y m is ++ rest)
        → RowRead S h (a_simple (level room) (items_so_far [] Command n)) p rest (command_bodies (simple is))
        (λ c. shape_of_command B c ≡ open_command [] (simple is))
    unfolding a_simple open_command command_bodies
    simple_read h is n p good first token_is at =
        let r = simple_items h n p good.items good.some first token_is at in
        record {
          value = simple (items_of r.more_items_read);
          «end» = r.«end»;
          later = r.later;
          at = r.at;
          texts = r.texts;
          reads = r.reads ⟫ given_here;
          is = ap (λ is. simple is) r.shape;
        }

    -- no `(` stands after a word
    next_round : (h : Held) {position last : Position} {is : Shape ItemsOf} →
        GoodItems edition room of_command position is last → (e : ℕ) → At S h e (print_items y m is ++ rest) →
        is_paren (edition_next S position e).token ≡ false
    next_round h {position = position} none_more e at = let b = after_it h e at in
        ap (λ (n : Next). is_paren n.token) (b.seen_as position) ∙ b.no_round
    next_round h {position = position} (one_more {is = is} good others) e at =
        item_no_round (edition_next S position e).token (next_item h is e good at).begins

    -- a simple command that begins with a word
    word_command_read : (h : Held) {last : Position} {w : Text} {ss : Shape SubstsOf} {is : Shape ItemsOf} (p : ℕ) →
        ItemAnywhere edition room Command tokens.Word w ss → GoodItems edition room of_command Suffix is last →
        At S h p (text w ∷ (print_items y m is ++ rest))
        → RowRead S h (a_word_command (level room)) p rest
        (command_bodies (simple (more_items (an_item_of false Suffix (word w ss)) is)))
        (λ c. shape_of_command B c ≡ open_command [] (simple (more_items (an_item_of false Suffix (word w ss)) is)))
    unfolding a_word_command a_simple open_command open_items command_bodies items_bodies item_bodies
        item_content_bodies
    word_command_read h {w = w} {ss = ss} {is = is} p good others at =
        let ms = print_items y m is ++ rest in
        let there = at ∙ laid_text h w ms in
        let found = good.there (g S) p (lay h ms) there (items_follow y m is rest follow (held_bytes h.waiting)) in
        let v = found.word B (sym S.here) in
        let e = p + length w in
        let at_e = at_text S h p w ms at in
        let it : AnItem = item false (argument v.0) in
        let r = items_read h others (it ∷ []) e (λ e. absurd cc) at_e in
        record {
          value = simple (items_of (it ∷ r.more_items_read));
          «end» = r.«end»;
          later = r.later;
          at = r.at;
          texts = r.texts;
          reads = seen_here is_a_name ⟫ printed_word S room h w ss p v ⟫ next_read S h Suffix e ⟫ second_of _ _
              (next_round h others e at_e) (pushed_here [] it ⟫ (r.reads ⟫ given_here));
          is = rw (item_shape Suffix false v.0 (word w ss) v.1.1, r.shape) refl;
        }

    -- one that begins with another item
    other_read : (h : Held) (is : Shape ItemsOf) (n : Next) (p : ℕ) → GoodSimple edition room is →
        first_not_broken is ≡ true → n.token ≡ edition_token S Command p → At S h p (print_simple y m is ++ rest) →
        is_word n.token ≡ false → begins_simple n.token ≡ true
        → RowRead S h (a_command (level room) n) p rest (command_bodies (simple is))
        (λ c. shape_of_command B c ≡ open_command [] (simple is))
    unfolding a_command
    other_read h is n p good first token_is at no_word begins =
        let r = simple_read h is n p good first token_is at in
        record {
          value = r.value;
          «end» = r.«end»;
          later = r.later;
          at = r.at;
          texts = r.texts;
          reads = second_of _ _ no_word (first_of _ _ begins r.reads);
          is = r.is;
        }

    -- one that begins with a word, which is no assignment
    word_first_read : (h : Held) {last : Position} (w : Text) (ss : Shape SubstsOf) (is : Shape ItemsOf) (n : Next)
        (p : ℕ) → is_word n.token ≡ true → ItemAnywhere edition room Command tokens.Word w ss →
        GoodItems edition room of_command Suffix is last → At S h p (text w ∷ (print_items y m is ++ rest))
        → RowRead S h (a_command (level room) n) p rest
        (command_bodies (simple (more_items (an_item_of false Suffix (word w ss)) is)))
        (λ c. shape_of_command B c ≡ open_command [] (simple (more_items (an_item_of false Suffix (word w ss)) is)))
    unfolding a_command
    word_first_read h w ss is n p is_here good others at =
        let r = word_command_read h p good others at in
        record {
          value = r.value;
          «end» = r.«end»;
          later = r.later;
          at = r.at;
          texts = r.texts;
          reads = first_of _ _ is_here r.reads;
          is = r.is;
        }

    -- one that begins with a word or an assignment, as its token tells
    word_or_assignment_read : (h : Held) {last next : Position} {token : Token} (b : Bool) (w : Text)
        (ss : Shape SubstsOf) (is : Shape ItemsOf) (n : Next) (p : ℕ) → after_word token ≡ Some next →
        ItemAnywhere edition room Command token w ss → GoodItems edition room of_command next is last →
        first_not_broken (more_items (an_item_of b next (word w ss)) is) ≡ true →
        n.token ≡ edition_token S Command p →
        At S h p (print_simple y m (more_items (an_item_of b next (word w ss)) is) ++ rest)
        → RowRead S h (a_command (level room) n) p rest
        (command_bodies (simple (more_items (an_item_of b next (word w ss)) is)))
        (λ c. shape_of_command B c ≡ open_command [] (simple (more_items (an_item_of b next (word w ss)) is)))
    word_or_assignment_read h {last = last} {next = next} {token = token} b w ss is n p is_item one others first
        token_is at =
        let ms = print_items y m is ++ rest in
        let there = at ∙ ap (lay h) (simple_printed (an_item_of b next (word w ss)) is)
        ∙ ap (λ ks. lay h (ks ++ ms)) (item_printed y b next w ss) in
        let found = one.there (g S) p (lay h ms) (there ∙ laid_text h w ms)
        (items_follow y m is rest follow (held_bytes h.waiting)) in
        let token_here : n.token ≡ token = token_is
        ∙ edition_word S (item_is_word token (ap is_some is_item)) found.token_is in
        ⊎_elim
        (λ (k : (token ≡ tokens.Word) × (next ≡ Suffix)).
        let same : more_items (an_item_of false Suffix (word w ss)) is ≡ more_items (an_item_of b next (word w ss)) is =
        rw (first_item b next (word w ss) is first, k.1) refl in
        subst (λ is. RowRead S h (a_command (level room) n) p rest (command_bodies (simple is))
        (λ c. shape_of_command B c ≡ open_command [] (simple is))) same
        (word_first_read h w ss is n p (ap is_word (token_here ∙ k.0))
        (subst (λ (t : Token). ItemAnywhere edition room Command t w ss) k.0 one)
        (subst (λ (q : Position). GoodItems edition room of_command q is last) k.1 others) there))
        (λ (k : (token ≡ tokens.Assignment) × (next ≡ Prefix)).
        other_read h (more_items (an_item_of b next (word w ss)) is) n p
        (record { last = last; items = one_more (of_word is_item one) others; some = tt }) first token_is at
        (ap is_word (token_here ∙ k.0)) (ap begins_simple (token_here ∙ k.0)))
        (kind_of token next is_item)

    -- a simple command is read, by what it begins with
    pub simple_command : (h : Held) (is : Shape ItemsOf) (n : Next) (p : ℕ) → GoodSimple edition room is →
        first_not_broken is ≡ true → n.token ≡ edition_token S Command p → At S h p (print_simple y m is ++ rest)
        → RowRead S h (a_command (level room) n) p rest (command_bodies (simple is))
        (λ c. shape_of_command B c ≡ open_command [] (simple is))
    simple_command h all n p good first token_is at = by_items h good.items good.some first at
      where
        by_items : (h : Held) {last : Position} {is : Shape ItemsOf} →
            GoodItems edition room of_command Command is last → SomeItem is → first_not_broken is ≡ true →
            At S h p (print_simple y m is ++ rest)
            → RowRead S h (a_command (level room) n) p rest (command_bodies (simple is))
            (λ c. shape_of_command B c ≡ open_command [] (simple is))
        by_items h none_more some first at = absurd some
        by_items h (one_more {is = is} (of_word {broken = b} {t = w} {ss = ss} is_item one) others) some first at =
            word_or_assignment_read h b w ss is n p is_item one others first token_is at
        by_items h {last = last} (one_more {is = is}
            (of_redirect {broken = b} {number = number} {o = k} {t = t} {ss = ss} {h = doc} one) others) some first
            at =
            let there = redirect_there S room y number k t ss doc one (print_items y m is ++ rest)
            (items_follow y m is rest follow) h Command b p
            (at ∙ ap (lay h) (simple_printed (a_redirect_of b number k t ss doc) is)) in
            let redirect_is = ap begins_redirect token_is ∙ there.redirect in
            other_read h (more_items (a_redirect_of b number k t ss doc) is) n p
            (record { last = last; items = one_more (of_redirect one) others; some = tt }) first token_is at
            (redirect_no_word n.token redirect_is) (redirect_is_item n.token redirect_is)
