-- Items with their redirections and here-documents, commands, pipelines, and-or lists and entries: what was
-- read of them has a good shape, if the compound commands at their level have. The here-documents of an open
-- part have no bodies yet; at the end of the line it is filled.
use Rattle.std.proofs.Common.{◌≡◌, ◌∙◌, refl, sym, ap, subst, ℕ, zero, suc, ◌+◌, ◌-◌, Bool, true, false, List, List as Row, [], ◌∷◌, ◌++◌, drop, take, Option, Some, None, is_some, option_map}
use Rattle.std.proofs.lemmas.Bool.{both_ways}
use Rattle.shgrammar.specs.declared.token.Next.{Next}
use Rattle.shgrammar.specs.declared.token.Opener.{Opener}
use Rattle.shgrammar.specs.declared.edition.Edition.{Edition}
use Rattle.shgrammar.specs.declared.token.Position.{Position}
use Rattle.shgrammar.specs.declared.token.Position.TheVariants.{Command, Prefix, Suffix}
use Rattle.shast.specs.declared.tree.RedirectOperator.{RedirectOperator}
use Rattle.shgrammar.specs.declared.token.Token.{Token}
use Rattle.shgrammar.specs.declared.token.Token.TheVariants as tokens
use Rattle.shast.specs.declared.tree.AndOrOperator.{AndOrOperator}
use Rattle.shast.specs.declared.tree.Span.{Span}
use Rattle.shast.specs.Tree.{AHere, AHereOf, AJoin, AnAndOr, APipeline, APipelinePart, AnAndOrPart, ACommand, AForm, pipeline_parts_of, and_or_parts_of, AnEntry, AnItem, AWord, item, entry, items_of, ItemsOf, no_item, AnItemOf, AWordOf, SubstsOf, word, substs_of, ACompound, compound, argument, AFormOf, formed, redirect, with_redirects, command, and_or, pipeline, simple}
use Rattle.shast.specs.Shape.{Text, Shape, bare_at, text_at, shape_of_comment, shape_of_entry, shape_of_and_or, shape_of_and_or_parts, shape_of_pipeline, shape_of_pipes, shape_of_command, shape_of_form, shape_of_items, shape_of_item, shape_of_word, shape_of_substs, shape_of_compound, shape_of_here}
use Rattle.shgrammar.specs.Comments.{span}
use Rattle.shgrammar.specs.Tokens.{is_name_at, token_at}
use Rattle.shgrammar.specs.Sights.{Given, the_delimiter}
use Rattle.shgrammar.specs.HereDocuments.{ADelimiter, delimiter_in}
use Rattle.shgrammar.specs.Form.{Spelled, Form, see, give, ◌>>=◌, with_bytes, Step, again, done, raw}
use Rattle.shgrammar.specs.Words.{Inner, a_word}
use Rattle.shgrammar.specs.Commands.{pick, is_pipe, begins_simple, begins_word, begins_redirect, opener_of, compound_by, and_or_operator_of, ItemsSoFar, items_so_far, after_word, is_number_token, redirect_operator_of, takes_here, a_number, an_operator, operator_by, a_target, one_redirect, after_redirect, redirect_turn, with_redirect_list, as_item, breaks, an_item, item_by, item_turn, a_simple, a_command, PipesSoFar, pipes_so_far, one_command, pipe_turn, a_pipeline, AndOrSoFar, and_or_so_far, one_pipeline, joined_by, and_or_turn, an_and_or, an_entry, is_word, is_paren, a_word_command, a_document, document_by, open_document, is_long, is_strip}
use Rattle.shgrammar.specs.Levels.{level}
use Rattle.shgrammar.proofs.MovedTrees.{parted_some}
use Rattle.shgrammar.proofs.BodiesAnywhere.{DocumentAnywhere}
use Rattle.shgrammar.proofs.Spelling.{raw_at}
use Rattle.shgrammar.proofs.ItemsAnywhere.{ItemAnywhere, is_a_word, item_is_word, item_anywhere}
use Rattle.shprint.proofs.Tokens.{told_so, word_token}
use Rattle.shprint.proofs.Digits.{digits_good, number_here}
use Rattle.shprint.proofs.Due.{Due, due_at, BodyOf, docs_more, Opens, opens_nothing, opens_so, opens_one, opens_two, opens_document, opens_none, opens_last, opens_some, fill_all, SomeOf, some_last}
use Rattle.shast.specs.Bodies.{fill_here, fill_item_content, fill_item, fill_items, fill_entry, fill_content, fill_and_or, fill_and_or_part, fill_pipeline, fill_pipe, fill_command, fill_compound, fill_form}
use Rattle.shast.proofs.Going.{items_going, and_or_parts_going, pipes_going}
use Rattle.shprint.proofs.Good.{GoodHere, GoodOwnComment, an_item_of, a_redirect_of, GoodNumber, GoodRedirect, GoodRedirects, Kind, of_command, of_compound, GoodItem, of_word, of_redirect, of_redirect_after, GoodItems, none_more, SomeItem, GoodSimple, GoodEntry, GoodAndOr, GoodParts, GoodPipeline, GoodPipes, GoodCommand, GoodForm, GoodCompound}
use Rattle.shprint.proofs.GoodRows.{with_last, items_more, items_last, pipes_more, joined_more}
use Rattle.shprint.proofs.ReadableForms.{Quiet, AddsNone, gives, first, after, picks, with_its_bytes, stopped, Adds, add_gives, add_first, read_first, add_after, so_adds, add_sees, add_pushes, add_picks, add_stops, add_stopped, TurnGives, add_repeats, Stands, word_so, reads_next, reads_bang, reads_separator, WordRead, reads_word, reads_comment, Comments, reads_join}
use Rattle.shast.specs.Nodes.{word_span}
use Rattle.shgrammar.proofs.NamesBefore.{NameBefore, name_before}

-- what a compound command holds: it is open while that is read
abbrev GoodUnder : Edition → ℕ → Shape AFormOf → Type 0
GoodUnder edition zero form = ⊥
GoodUnder edition (suc room) form = GoodForm edition room form

-- with redirections after it
compound_with : (edition : Edition) (room : ℕ) (form : Shape AFormOf) (more : Shape ItemsOf) →
    GoodUnder edition room form → GoodRedirects edition room more → GoodCompound edition room (formed form tt more)
compound_with edition zero form more good redirects = absurd good
compound_with edition (suc room) form more good redirects = (good, redirects)

module _ (B : List ℕ) where
  -- an item, by its word
  pub item_is : (broken : Bool) (position : Position) (w : AWord) (t : Shape AWordOf) → shape_of_word B w ≡ t →
      shape_of_item B (item broken (as_item position w)) ≡ an_item_of broken position t
  item_is broken Command w t e = rw e refl
  item_is broken Prefix w t e = rw e refl
  item_is broken Suffix w t e = rw e refl

module _ (B : List ℕ) (g : Given) (here : g.text ≡ drop g.offset B) where
  module _ (room : ℕ) where
    -- what may be opened inside
    abbrev inner : Inner
    inner = level room

    -- ---- parts of a list, where these documents are open

    -- an item, and items, good once they have the bodies of their documents
    abbrev OpenItem : Kind → Position → Row Due → AnItem → Row Due → Position → Type 0
    OpenItem kind position D i E next =
        Opens g fill_item (λ j. GoodItem g.edition room kind position (shape_of_item B j) next) D i E

    abbrev OpenItems : Kind → Position → Row Due → Row AnItem → Row Due → Position → Type 0
    OpenItems kind begin D is E last =
        Opens g (fill_all g fill_item)
        (λ js. GoodItems g.edition room kind begin (shape_of_items B (items_of js)) last) D is E

    -- so are commands, and all that holds them
    abbrev OpenCommand : Row Due → ACommand → Row Due → Type 0
    OpenCommand D c E = Opens g fill_command (λ d. GoodCommand g.edition room (shape_of_command B d)) D c E

    abbrev pub OpenCompound : Row Due → ACompound → Row Due → Type 0
    OpenCompound D c E = Opens g fill_compound (λ d. GoodCompound g.edition room (shape_of_compound B d)) D c E

    -- what a compound command holds
    abbrev OpenUnder : Row Due → AForm → Row Due → Type 0
    OpenUnder D f E = Opens g fill_form (λ h. GoodUnder g.edition room (shape_of_form B h)) D f E

    abbrev OpenPipeline : Row Due → APipeline → Row Due → Type 0
    OpenPipeline D x E = Opens g fill_pipeline (λ y. GoodPipeline g.edition room (shape_of_pipeline B y)) D x E

    abbrev OpenAndOr : Row Due → AnAndOr → Row Due → Type 0
    OpenAndOr D x E = Opens g fill_and_or (λ y. GoodAndOr g.edition room (shape_of_and_or B y)) D x E

    abbrev pub OpenEntry : Row Due → AnEntry → Row Due → Type 0
    OpenEntry D x E = Opens g fill_entry (λ y. GoodEntry g.edition room (shape_of_entry B y)) D x E

    -- ---- simple commands

    -- the items so far, after the documents C, and the token after them; where it begins none there is one
    record ItemsSo (C : Row Due) (i : ItemsSoFar) (D : Row Due) (p : ℕ) : Type 0 where
      pub good : OpenItems of_command Command C i.items D i.position
      pub stands : Stands g i.position i.next p
      pub begun : begins_simple i.next.token ≡ false → SomeOf g i.items

    -- after an item there is one
    abbrev ItemsOn : Row Due → ItemsSoFar → Row Due → ℕ → Type 0
    ItemsOn C i D p = ItemsSo C i D p × SomeOf g i.items

    -- they are a simple command
    abbrev ItemsDone : Row Due → ItemsSoFar → Row Due → ℕ → Type 0
    ItemsDone C i D p = Opens g fill_items (λ is. GoodSimple g.edition room (shape_of_items B is)) C
        (items_of i.items) D

    -- a row that has an item has one in its shape
    some_item : (is : Row AnItem) → SomeOf g is → SomeItem (shape_of_items B (items_of is))
    some_item [] some = some
    some_item (i ∷ is) some = tt

    -- items of which there is one are a simple command
    simple_is : (C : Row Due) (i : ItemsSoFar) (D : Row Due) (p : ℕ) → ItemsOn C i D p → ItemsDone C i D p
    simple_is C i D p (so, some) =
        opens_one g (items_of i.items) items_of (items_going i.items)
        (λ is good. record { last = i.position; items = good.0; some = some_item is good.1 })
        (opens_some g fill_item some so.good)

    -- the shape of the word that was read from p up to q
    pub word_shape : (p q : ℕ) (w : AWord) (read : WordRead g room p w q) →
        shape_of_word B w ≡ word (take (q - p) (drop p g.text)) (shape_of_substs B (substs_of read.substs))
    word_shape p q w read = ap (shape_of_word B) read.is
        ∙ ap (λ t. word t (shape_of_substs B (substs_of read.substs))) (sym (raw_at B g here p q))

    -- the text and the substitutions of a word that was read from p up to q
    abbrev pub text_of : (p q : ℕ) → Text
    text_of p q = text_at B (span g.offset p q)

    -- the substitutions of a word, by their shapes
    abbrev pub substs_in : {p q : ℕ} {w : AWord} → WordRead g room p w q → Shape SubstsOf
    substs_in read = shape_of_substs B (substs_of read.substs)

    -- a word that was read is read wherever it stands
    pub reads_anywhere : (position : Position) (n : Next) (p q : ℕ) (w : AWord) → begins_word n.token ≡ true →
        Stands g position n p → (read : WordRead g room p w q)
        → ItemAnywhere g.edition room position n.token (text_of p q) (substs_in read)
    reads_anywhere position n p q w is stands read =
        let anywhere = item_anywhere room position n.token g p (q - p) (w, read.part) stands.place stands.no_blank
        (word_so g stands (item_is_word n.token is)) is B here (substs_in read) (word_shape p q w read) in
        subst (λ (t : Text). ItemAnywhere g.edition room position n.token t (substs_in read))
        (raw_at B g here p q) anywhere

    -- one more item of this shape
    pub one_more_good : (kind : Kind) (begin position next : Position) (is : Row AnItem) (i : AnItem)
        (j : Shape AnItemOf) →
        shape_of_item B i ≡ j → GoodItem g.edition room kind position j next
        → GoodItems g.edition room kind begin (shape_of_items B (items_of is)) position →
        GoodItems g.edition room kind begin (shape_of_items B (items_of (is ++ i ∷ []))) next
    one_more_good kind begin position next is i j shape one good =
        subst (λ (s : Shape ItemsOf). GoodItems g.edition room kind begin s next)
        (sym (items_last B is i ∙ ap (with_last (shape_of_items B (items_of is))) shape)) (items_more good one)

    one_more_open : {C D E : Row Due} (kind : Kind) (begin position next : Position) (is : Row AnItem) (i : AnItem) →
        OpenItem kind position D i E next → OpenItems kind begin C is D position
        → OpenItems kind begin C (is ++ i ∷ []) E next
    one_more_open kind begin position next is i one all =
        opens_last g is i (λ js j good more. one_more_good kind begin position next js j
        (shape_of_item B j) refl more good) all one

    -- a word is no document
    word_open : {D : Row Due} (kind : Kind) (broken : Bool) (position next place : Position) (w : AWord) →
        GoodItem g.edition room kind position (shape_of_item B (item broken (as_item place w))) next
        → OpenItem kind position D (item broken (as_item place w)) D next
    unfolding fill_item fill_item_content
    word_open kind broken position next place w good =
        opens_nothing g (item broken (as_item place w)) (λ ts. word_filled broken place w ts) good
      where
        word_filled : (broken : Bool) (place : Position) (w : AWord) (ts : Row Span) →
            fill_item (item broken (as_item place w)) ts ≡ (item broken (as_item place w), ts)
        word_filled broken Command w ts = refl
        word_filled broken Prefix w ts = refl
        word_filled broken Suffix w ts = refl

    -- one more word of a simple command, which was read from p up to q
    one_item : {C D : Row Due} (begin position : Position) (is : Row AnItem) (broken : Bool) (n : Next)
        (next : Position) (p q : ℕ) (w : AWord) → after_word n.token ≡ Some next
        → OpenItems of_command begin C is D position → Stands g position n p → WordRead g room p w q →
        OpenItems of_command begin C (is ++ item broken (as_item next w) ∷ []) D next
    one_item begin position is broken n next p q w some good stands read =
        let shape = item_is B broken next w (word (text_of p q) (substs_in read)) (ap (shape_of_word B) read.is) in
        let one = of_word some (reads_anywhere position n p q w (ap is_some some) stands read) in
        one_more_open of_command begin position next is (item broken (as_item next w))
        (word_open of_command broken position next next w
        (subst (λ (s : Shape AnItemOf). GoodItem g.edition room of_command position s next) (sym shape) one)) good

    -- a word as an item
    reads_item : (C : Row Due) (i : ItemsSoFar) (next : Position) (D : Row Due) (p : ℕ) →
        after_word i.next.token ≡ Some next → ItemsSo C i D p
        → Adds g D (an_item inner i next) (TurnGives g (ItemsOn C) (ItemsDone C)) p
    unfolding an_item
    reads_item C i next D p is so =
        read_first g (reads_word g room p) (λ w q read. add_pushes g (read_first g (reads_next g next q) (λ n e stands.
        let some = some_last g i.items (item (breaks i) (as_item next w)) in
        add_gives g (
          record {
            good =
                one_item Command i.position i.items (breaks i) i.next next p q w is so.good so.stands read;
            stands = stands;
            begun = λ y. some;
          },
          some,
        ))))

    -- ---- redirections

    -- the digits of a number
    abbrev bare_number : Option Span → Option Text
    bare_number d = option_map (bare_at B) d

    -- the number before an operator is digits
    reads_number : (position : Position) (n : Next) (p : ℕ) → Stands g position n p →
        AddsNone g (a_number n) (λ x e. GoodNumber (bare_number x.0)) p
    unfolding a_number
    reads_number position n p so =
        picks g (is_number_token n.token)
        (λ is. first g (record {
          reads =
              λ D s docs. record {
                told = (
                  docs,
                  digits_good B g here p
                      (number_here position g.text p n.token
                      (told_so is_number_token refl refl g.edition (token_at position g.text p) n.token so.token_is is)
                      is),
                );
              };
        })
        (λ x e good. first g (reads_next g Suffix e) (λ m f stands. gives g good)))
        (gives g tt)

    -- an operator, whatever it is
    reads_operator : (at : ℕ) (o : Option RedirectOperator) (p : ℕ) → AddsNone g (operator_by at o) (λ x e. Unit {0}) p
    unfolding an_operator
    reads_operator at (Some o) p =
        after g (tt, (λ u. (picked (is_long o) _ _ tt tt, (λ v. picked (is_strip o) _ _ tt tt)))) (λ x e. gives g tt)
      where
        picked : (b : Bool) (r q : Form (Unit {0})) → Quiet r → Quiet q → Quiet (pick b r q)
        picked true r q one two = one
        picked false r q one two = two
    reads_operator at None p = record { reads = λ D s docs. record { told = tt } }

    -- the word of a redirection, and its bytes
    abbrev TargetGood : AWord × Spelled → ℕ → Type 0
    TargetGood x e = (ss : Shape SubstsOf) × (shape_of_word B x.0 ≡ word x.1 ss)
        × ItemAnywhere g.edition room Suffix tokens.Word x.1 ss

    -- the word of a redirection is one wherever it stands
    reads_target : (p : ℕ) → AddsNone g (a_target inner) TargetGood p
    unfolding a_target
    reads_target p =
        first g (reads_next g Suffix p) (λ n e stands. picks g (is_word n.token)
        (λ is. first_so n e (word_token n.token is) stands) (stopped g inner n))
      where
        first_so : (n : Next) (e : ℕ) → n.token ≡ tokens.Word → Stands g Suffix n e →
            AddsNone g (with_bytes (a_word inner)) TargetGood e
        first_so n e is stands =
            with_its_bytes g (reads_word g room e) (λ w q read.
            let anywhere = subst (λ (t : Token). ItemAnywhere g.edition room Suffix t (text_of e q) (substs_in read)) is
            (reads_anywhere Suffix n e q w (ap begins_word is) stands read) in (
              substs_in read,
              word_shape e q w read,
              subst (λ (t : Text). ItemAnywhere g.edition room Suffix tokens.Word t (substs_in read))
                  (sym (raw_at B g here e q)) anywhere,
            ))

    -- its document, good once it has its body
    abbrev OpenHere : RedirectOperator → Text → Row Due → Option AHere → Row Due → Type 0
    OpenHere o t D h E = Opens g fill_here (λ x. GoodHere g.edition o t (option_map (shape_of_here B) x)) D h E

    -- the document of an operator at b, whose word has these bytes
    reads_document : (o : RedirectOperator) (b at : ℕ) (t : Text) (D : Row Due) (p : ℕ) →
        Adds g D (a_document o b at t) (λ h E e. OpenHere o t D h E) p
    unfolding a_document
    reads_document o b at t D p = by_here (takes_here o) refl
      where
        good : (d : ADelimiter) → takes_here o ≡ true → delimiter_in g.edition t ≡ Some d → (s : Span) →
            BodyOf g (due_at b (is_strip o) d) s
            → GoodHere g.edition o t (Some
            (shape_of_here B (record { literal = d.literal; strip = is_strip o; body = s })))
        good d takes is s body =
            let text : raw g.text body.p body.q ≡ text_at B s = raw_at B g here body.p body.q
            ∙ ap (text_at B) (sym body.is) in
            record {
              takes = takes;
              d = d;
              delimits = is;
              literal = refl;
              strip = refl;
              reads = subst (DocumentAnywhere (is_strip o) d) text body.reads;
            }

        by_delimiter : (d : Option ADelimiter) → takes_here o ≡ true → delimiter_in g.edition t ≡ d →
            Adds g D (document_by b at (is_strip o) d) (λ h E e. OpenHere o t D h E) p
        by_delimiter None takes is = add_stops g
        by_delimiter (Some d) takes is =
            let x = due_at b (is_strip o) d in
            record {
              adds = λ s docs. record {
                told = (
                  D ++ x ∷ [],
                  docs_more g x docs,
                  opens_document g x (open_document (is_strip o) d) (good d takes is),
                );
              };
            }

        by_here : (c : Bool) → takes_here o ≡ c →
            Adds g D (pick c (see (the_delimiter t) >>= document_by b at (is_strip o)) (give None))
            (λ h E e. OpenHere o t D h E) p
        by_here true is = add_sees g (λ s. refl) (by_delimiter (delimiter_in g.edition t) is refl)
        by_here false is = add_gives g (opens_nothing g None (λ ts. refl) is)

    -- a redirection, by its shape
    abbrev IsRedirect : Bool → Shape AnItemOf → Type 0
    IsRedirect broken s = (number : Option Text) × (o : RedirectOperator) × (t : Text) × (ss : Shape SubstsOf)
        × (h : Option (AHereOf Text)) × (s ≡ a_redirect_of broken number o t ss h)
        × GoodRedirect g.edition room number o t ss h

    -- a redirection, good once its document has its body
    abbrev OpenRedirect : Bool → Row Due → AnItem → Row Due → Type 0
    OpenRedirect broken D i E = Opens g fill_item (λ j. IsRedirect broken (shape_of_item B j)) D i E

    -- so it is by its parts
    redirect_open : {D E : Row Due} (broken : Bool) (d : Option Span) (o : RedirectOperator) (s : Span) (w : AWord)
        (h : Option AHere) (t : Text) (ss : Shape SubstsOf) → GoodNumber (bare_number d)
        → shape_of_word B w ≡ word t ss → ItemAnywhere g.edition room Suffix tokens.Word t ss → OpenHere o t D h E →
        OpenRedirect broken D (item broken (redirect d o s w h)) E
    unfolding fill_item fill_item_content
    redirect_open broken d o s w h t ss number is reads document =
        opens_one g (item broken (redirect d o s w h)) (λ x. item broken (redirect d o s w x)) (λ ts. refl)
        (λ x good. (
          bare_number d,
          o,
          t,
          ss,
          option_map (shape_of_here B) x,
          shape x,
          record { digits = number; document = good; reads = reads },
        )) document
      where
        shape : (x : Option AHere) →
            shape_of_item B (item broken (redirect d o s w x))
            ≡ a_redirect_of broken (bare_number d) o t ss (option_map (shape_of_here B) x)
        shape x = rw is refl

    -- whatever holds after a good redirection
    reads_redirect : (Q : ItemsSoFar → Row Due → ℕ → Type 0) (broken : Bool) (place next : Position) (is : Row AnItem)
        (n : Next) (D : Row Due) (p : ℕ) → Stands g place n p
        → ((i : AnItem) (m : Next) (E : Row Due) (e : ℕ) → OpenRedirect broken D i E → Stands g next m e →
        Q (items_so_far (is ++ i ∷ []) next m) E e) → Adds g D (one_redirect inner broken next is n) (TurnGives g Q Q) p
    unfolding one_redirect
    reads_redirect Q broken place next is n D p so all =
        add_sees g (λ s. refl) (read_first g (reads_number place n p so)
        (λ d e one. read_first g (reads_operator (g.offset + p) (redirect_operator_of d.1.token) e)
        (λ o f two. read_first g (reads_target f) (λ w h three.
        add_first g (reads_document o.0 o.1.start (word_span w.0).start w.1 D h)
        (λ x E k four. add_pushes g (read_first g (reads_next g next k) (λ m j stands.
        add_gives g (all (item broken (redirect d.0 o.0 o.1 w.0 x)) m E j
        (redirect_open broken d.0 o.0 o.1 w.0 x w.1 three.0 one three.1 three.2 four) stands))))))))

    -- an item by the token in hand: a word, a redirection, or none
    reads_item_turn : (C : Row Due) (i : ItemsSoFar) (D : Row Due) (p : ℕ) → ItemsSo C i D p →
        Adds g D (item_turn inner i) (TurnGives g (ItemsOn C) (ItemsDone C)) p
    unfolding item_turn
    reads_item_turn C i D p so = by_token (after_word i.next.token) refl
      where
        on_done : (c : Step ItemsSoFar) (E : Row Due) (e : ℕ) → TurnGives g (ItemsOn C) (ItemsOn C) c E e →
            TurnGives g (ItemsOn C) (ItemsDone C) c E e
        on_done (again j) E e on = on
        on_done (done j) E e on = simple_is C j E e on

        is_item : (s : Shape AnItemOf) → IsRedirect (breaks i) s →
            GoodItem g.edition room of_command i.position s (after_redirect i.position)
        is_item s (number, o, t, ss, h, is, good) =
            subst (λ (r : Shape AnItemOf). GoodItem g.edition room of_command i.position r (after_redirect i.position))
            (sym is) (of_redirect good)

        by_redirect : (b : Bool) → begins_redirect i.next.token ≡ b → after_word i.next.token ≡ None
            → Adds g D (pick b (one_redirect inner (breaks i) (after_redirect i.position) i.items i.next)
            (give (done i))) (TurnGives g (ItemsOn C) (ItemsDone C)) p
        by_redirect true is none =
            so_adds g (reads_redirect (ItemsOn C) (breaks i) i.position
            (after_redirect i.position) i.items i.next D p so.stands (λ j m E e one stands.
            let some = some_last g i.items j in (
              record {
                good = one_more_open of_command Command i.position (after_redirect i.position) i.items j
                    (opens_so g (λ x good. is_item (shape_of_item B x) good) one) so.good;
                stands = stands;
                begun = λ y. some;
              },
              some,
            ))) on_done
        by_redirect false is none = add_gives g (simple_is C i D p (so, so.begun (rw (none, is) refl)))

        by_token : (next : Option Position) → after_word i.next.token ≡ next →
            Adds g D (item_by inner i next) (TurnGives g (ItemsOn C) (ItemsDone C)) p
        by_token (Some next) is = reads_item C i next D p is so
        by_token None is = by_redirect (begins_redirect i.next.token) refl is

    -- what is read is a good command
    abbrev Command_is : {X : Type 0} → Row Due → ACommand × X → Row Due → ℕ → Type 0
    Command_is D c E e = OpenCommand D c.0 E

    -- all items of a simple command
    reads_simple : (C : Row Due) (i : ItemsSoFar) (D : Row Due) (p : ℕ) → ItemsSo C i D p →
        Adds g D (a_simple inner i) (Command_is C) p
    unfolding a_simple fill_command
    reads_simple C i D p so =
        add_first g (add_repeats g (item_turn inner) (ItemsSo C) (ItemsOn C) (ItemsDone C) (reads_item_turn C)
        (λ i E e on. on.0) (simple_is C) i D p so)
        (λ i E e good. add_gives g (opens_one g (simple (items_of i.items)) simple (λ ts. refl) (λ is all. all) good))

    -- where the first item begins
    no_items_so : (n : Next) (D : Row Due) (p : ℕ) → begins_simple n.token ≡ true → Stands g Command n p →
        ItemsSo D (items_so_far [] Command n) D p
    no_items_so n D p begins so =
        record {
          good = opens_none g fill_item none_more;
          stands = so;
          begun = λ none. absurd (both_ways (begins_simple n.token) none begins);
        }

    -- ---- commands

    -- what is read is a good compound command
    abbrev Compound_is : {X : Type 0} → Row Due → ACommand × X → Row Due → ℕ → Type 0
    Compound_is D c E e = (body : ACompound) × (c.0 ≡ compound body) × OpenCompound D body E

    -- one without redirections, and the token after it
    abbrev Bare_is : Row Due → ACommand × Next → Row Due → ℕ → Type 0
    Bare_is D c E e = (form : AForm) × (mark : Span) × (c.0 ≡ compound (formed form mark no_item)) × OpenUnder D form E
        × Stands g Command c.1 e

    -- what is known of the compound commands and functions at this level
    pub record CompoundsReadable : Type 0 where
      pub compound : (o : Opener) (D : Row Due) (p : ℕ) → Adds g D (inner.compound o) (Bare_is D) p
      pub function : (name : Span) (D : Row Due) (p : ℕ) → NameBefore room (text_at B name) →
          Adds g D (inner.function name) (Command_is D) p

    module _ (fine : CompoundsReadable) where
      -- the redirections after a compound command
      record RedirectsSo (C : Row Due) (r : ItemsSoFar) (D : Row Due) (p : ℕ) : Type 0 where
        pub position : r.position ≡ Command
        pub good : OpenItems of_compound Command C r.items D Command
        pub stands : Stands g Command r.next p

      -- a redirection is good after a compound command
      is_after : (broken : Bool) (s : Shape AnItemOf) → IsRedirect broken s →
          GoodItem g.edition room of_compound Command s Command
      is_after broken s (number, o, t, ss, h, is, good) =
          subst (λ (r : Shape AnItemOf). GoodItem g.edition room of_compound Command r Command) (sym is)
          (of_redirect_after good)

      -- one more redirection keeps those so far good
      reads_redirect_turn : (C : Row Due) (r : ItemsSoFar) (D : Row Due) (p : ℕ) → RedirectsSo C r D p →
          Adds g D (redirect_turn inner r) (TurnGives g (RedirectsSo C) (RedirectsSo C)) p
      unfolding redirect_turn
      reads_redirect_turn C r D p so =
          add_picks g (begins_redirect r.next.token)
          (λ is. reads_redirect (RedirectsSo C) r.next.broken Command Command r.items r.next D p so.stands
          (λ j m E e one stands.
          record {
            position = refl;
            good =
                one_more_open of_compound Command Command Command r.items j
                (opens_so g (λ x good. is_after r.next.broken (shape_of_item B x) good) one) so.good;
            stands = stands;
          }))
          (add_gives g so)

      -- a compound command is good with the redirections after it, and so it is read, by its opener
      compound_open : {C D E : Row Due} (form : AForm) (mark : Span) (is : Row AnItem) → OpenUnder C form D →
          OpenItems of_compound Command D is E Command → OpenCompound C (formed form mark (items_of is)) E
      unfolding fill_compound
      compound_open form mark is one more =
          opens_two g (formed form mark (items_of is)) (λ f js. formed f mark (items_of js))
          (λ ts. rw (items_going is (fill_form form ts).1) refl)
          (λ f js good all. compound_with g.edition room (shape_of_form B f) (shape_of_items B (items_of js)) good
          (record { last = Command; items = all })) one more

      reads_with_redirect_list : (C : Row Due) (c : ACommand × Next) (D : Row Due) (p : ℕ) → Bare_is C c D p →
          Adds g D (with_redirect_list inner c) (Compound_is C) p
      unfolding with_redirect_list
      reads_with_redirect_list C c D p (form, mark, is, under, stands) =
          add_first g (add_repeats g (redirect_turn inner) (RedirectsSo D) (RedirectsSo D) (RedirectsSo D)
          (reads_redirect_turn D) (λ r E e on. on) (λ r E e on. on) (items_so_far [] Command c.1) D p
          (record { position = refl; good = opens_none g fill_item none_more; stands = stands }))
          (λ r E e all. add_gives g (
            formed form mark (items_of r.items),
            ap (λ (x : ACommand). with_redirects x (items_of r.items)) is,
            compound_open form mark r.items under all.good,
          ))

      pub reads_compound_by : (n : Next) (o : Option Opener) (D : Row Due) (p : ℕ) →
          Adds g D (compound_by inner n o) (Compound_is D) p
      reads_compound_by n (Some o) D p =
          add_first g (fine.compound o D p) (λ c E e so. reads_with_redirect_list D c E e so)
      reads_compound_by n None D p = add_stopped g inner n

      compound_good : {D E : Row Due} (c : ACommand) (body : ACompound) → c ≡ compound body → OpenCompound D body E →
          OpenCommand D c E
      unfolding fill_command
      compound_good {D = D} {E = E} c body is good =
          subst (λ (x : ACommand). OpenCommand D x E) (sym is)
          (opens_one g (compound body) compound (λ ts. refl) (λ y all. all) good)

      -- a word that is a NAME is one before `(`
      named_before : (n : Next) (p q : ℕ) (w : AWord) → n.token ≡ tokens.Word → Stands g Command n p →
          WordRead g room p w q → is_name_at g.text p ≡ true → NameBefore room (text_at B (word_span w))
      named_before n p q w is so read name =
          let before = name_before room g p (q - p) (w, read.part) so.place
          (word_so g so (ap is_a_word is) ∙ is) name in
          let place : word_span w ≡ span g.offset p q = ap word_span read.is in
          subst (NameBefore room) (raw_at B g here p q ∙ ap (text_at B) (sym place)) before

      reads_word_command : (n : Next) (D : Row Due) (p : ℕ) → n.token ≡ tokens.Word → Stands g Command n p →
          Adds g D (a_word_command inner) (Command_is D) p
      unfolding a_word_command
      reads_word_command n D p is so =
          let word_is : after_word n.token ≡ Some Suffix = ap after_word is in
          add_sees g (λ s. refl) (read_first g (reads_word g room p)
          (λ w q read. read_first g (reads_next g Suffix q) (λ m e stands.
          add_picks g (is_paren m.token)
          (λ paren. add_picks g (is_name_at g.text p)
          (λ name. fine.function (word_span w) D e (named_before n p q w is so read name)) (add_stops g))
          (add_pushes g (reads_simple D (items_so_far (item false (argument w) ∷ []) Suffix m) D e
          (record {
            good = one_item Command Command [] false n Suffix p q w word_is
                (opens_none g fill_item none_more) so read;
            stands = stands;
            begun = λ y. tt;
          }))))))

      reads_command : (n : Next) (D : Row Due) (p : ℕ) → Stands g Command n p →
          Adds g D (a_command inner n) (Command_is D) p
      unfolding a_command
      reads_command n D p so =
          add_picks g (is_word n.token) (λ is. reads_word_command n D p (word_token n.token is) so)
          (add_picks g (begins_simple n.token)
          (λ begins. reads_simple D (items_so_far [] Command n) D p (no_items_so n D p begins so))
          (so_adds g (reads_compound_by n (opener_of n.token) D p)
          (λ c E e good. compound_good c.0 good.0 good.1 good.2)))

      -- ---- pipelines

      -- the commands after the first one so far are good, and they are with one more after its join
      abbrev PipesGood : Row Due → PipesSoFar → Row Due → ℕ → Type 0
      PipesGood C x D p = Opens g (fill_all g fill_pipe)
          (λ ps. GoodPipes g.edition room (shape_of_pipes B (pipeline_parts_of ps))) C x.parts D

      pipe_more : {C D E : Row Due} (ps : Row APipelinePart) (j : AJoin) (c : ACommand) → Comments B g here j.comments →
          OpenCommand D c E
          → Opens g (fill_all g fill_pipe)
          (λ qs. GoodPipes g.edition room (shape_of_pipes B (pipeline_parts_of qs))) C ps D
          → Opens g (fill_all g fill_pipe) (λ qs. GoodPipes g.edition room (shape_of_pipes B (pipeline_parts_of qs))) C
          (ps ++ record { join = j; command = c } ∷ []) E
      pipe_more {D = D} {E = E} ps j c comments one all =
          opens_last g ps (record { join = j; command = c })
          (λ qs q good more. pipes_more B g.edition room qs q good more.0 more.1) all part
        where
          part : Opens g fill_pipe (λ (q : APipelinePart). Comments B g here q.join.comments
              × GoodCommand g.edition room (shape_of_command B q.command)) D (record { join = j; command = c }) E
          part = opens_one g (record { join = j; command = c }) (λ d. record { join = j; command = d }) (λ ts. refl)
              (λ d good. (comments, good)) one

      -- a command after a `|` is read so, each turn, and all of a pipeline
      reads_one_command : (C : Row Due) (x : PipesSoFar) (D : Row Due) (p : ℕ) → PipesGood C x D p →
          Adds g D (one_command inner x) (TurnGives g (PipesGood C) (PipesGood C)) p
      unfolding one_command
      reads_one_command C x D p so =
          add_after g tt (λ y e. read_first g (reads_join B g here x.next.broken e)
          (λ j f join. add_first g (reads_command j.1 D f join.1) (λ c E h good.
          add_pushes g (add_gives g (pipe_more x.parts j.0 c.0 join.0 good so)))))

      reads_pipe_turn : (C : Row Due) (x : PipesSoFar) (D : Row Due) (p : ℕ) → PipesGood C x D p →
          Adds g D (pipe_turn inner x) (TurnGives g (PipesGood C) (PipesGood C)) p
      unfolding pipe_turn
      reads_pipe_turn C x D p so =
          add_picks g (is_pipe x.next.token) (λ is. reads_one_command C x D p so) (add_gives g so)

      pipeline_open : {C D E : Row Due} (bang : Option Span) (c : ACommand) (ps : Row APipelinePart) → OpenCommand C c D
          → Opens g (fill_all g fill_pipe)
          (λ qs. GoodPipes g.edition room (shape_of_pipes B (pipeline_parts_of qs))) D ps E →
          OpenPipeline C (pipeline bang c (pipeline_parts_of ps)) E
      unfolding fill_pipeline
      pipeline_open bang c ps one all =
          opens_two g (pipeline bang c (pipeline_parts_of ps)) (λ d qs. pipeline bang d (pipeline_parts_of qs))
          (λ ts. rw (pipes_going ps (fill_command c ts).1) refl) (λ d qs good more. (good, more)) one all

      reads_pipeline : (n : Next) (D : Row Due) (p : ℕ) → Stands g Command n p →
          Adds g D (a_pipeline inner n) (λ x E e. OpenPipeline D x.0 E) p
      unfolding a_pipeline
      reads_pipeline n D p so =
          read_first g (reads_bang g n p so) (λ b e stands. add_first g (reads_command b.1 D e stands) (λ c C f good.
          add_first g (add_repeats g (pipe_turn inner) (PipesGood C) (PipesGood C) (PipesGood C) (reads_pipe_turn C)
          (λ x E d all. all) (λ x E d all. all) (pipes_so_far [] c.1) C f (opens_none g fill_pipe tt))
          (λ x E d all. add_gives g (pipeline_open b.0 c.0 x.parts good all))))

      -- ---- and-or lists

      -- the pipelines after the first one so far are good, and they are with one more after its join
      abbrev AndOrGood : Row Due → AndOrSoFar → Row Due → ℕ → Type 0
      AndOrGood C a D p = Opens g (fill_all g fill_and_or_part)
          (λ ps. GoodParts g.edition room (shape_of_and_or_parts B (and_or_parts_of ps))) C a.parts D

      part_more : {C D E : Row Due} (ps : Row AnAndOrPart) (o : AndOrOperator) (j : AJoin) (x : APipeline) →
          Comments B g here j.comments → OpenPipeline D x E
          → Opens g (fill_all g fill_and_or_part)
          (λ qs. GoodParts g.edition room (shape_of_and_or_parts B (and_or_parts_of qs))) C ps D
          → Opens g (fill_all g fill_and_or_part)
          (λ qs. GoodParts g.edition room (shape_of_and_or_parts B (and_or_parts_of qs))) C
          (ps ++ record { operator = o; join = j; pipeline = x } ∷ []) E
      part_more {D = D} {E = E} ps o j x comments one all =
          opens_last g ps (record { operator = o; join = j; pipeline = x })
          (λ qs q good more. joined_more B g.edition room qs q good more.0 more.1) all part
        where
          part : Opens g fill_and_or_part
              (λ (q : AnAndOrPart). Comments B g here q.join.comments
              × GoodPipeline g.edition room (shape_of_pipeline B q.pipeline)) D
              (record { operator = o; join = j; pipeline = x }) E
          part = opens_one g (record { operator = o; join = j; pipeline = x })
              (λ y. record { operator = o; join = j; pipeline = y }) (λ ts. refl) (λ y good. (comments, good)) one

      -- a pipeline after `&&` or `||` is read so, each turn, and all of an and-or list
      reads_one_pipeline : (C : Row Due) (a : AndOrSoFar) (o : AndOrOperator) (D : Row Due) (p : ℕ) → AndOrGood C a D p
          →
          Adds g D (one_pipeline inner a o) (TurnGives g (AndOrGood C) (AndOrGood C)) p
      unfolding one_pipeline
      reads_one_pipeline C a o D p so =
          add_after g (tt, (λ u. tt))
          (λ y e. read_first g (reads_join B g here a.next.broken e)
          (λ j f join. add_first g (reads_pipeline j.1 D f join.1) (λ x E h good.
          add_pushes g (add_gives g (part_more a.parts o j.0 x.0 join.0 good so)))))

      reads_and_or_turn : (C : Row Due) (a : AndOrSoFar) (D : Row Due) (p : ℕ) → AndOrGood C a D p →
          Adds g D (and_or_turn inner a) (TurnGives g (AndOrGood C) (AndOrGood C)) p
      unfolding and_or_turn
      reads_and_or_turn C a D p so = by_operator (and_or_operator_of a.next.token)
        where
          by_operator : (o : Option AndOrOperator) →
              Adds g D (joined_by inner a o) (TurnGives g (AndOrGood C) (AndOrGood C)) p
          by_operator (Some o) = reads_one_pipeline C a o D p so
          by_operator None = add_gives g so

      and_or_open : {C D E : Row Due} (x : APipeline) (ps : Row AnAndOrPart) → OpenPipeline C x D
          → Opens g (fill_all g fill_and_or_part)
          (λ qs. GoodParts g.edition room (shape_of_and_or_parts B (and_or_parts_of qs))) D ps E →
          OpenAndOr C (and_or x (and_or_parts_of ps)) E
      unfolding fill_and_or
      and_or_open x ps one all =
          opens_two g (and_or x (and_or_parts_of ps)) (λ y qs. and_or y (and_or_parts_of qs))
          (λ ts. rw (and_or_parts_going ps (fill_pipeline x ts).1) refl) (λ y qs good more. (good, more)) one all

      reads_and_or : (n : Next) (D : Row Due) (p : ℕ) → Stands g Command n p →
          Adds g D (an_and_or inner n) (λ a E e. OpenAndOr D a.0 E) p
      unfolding an_and_or
      reads_and_or n D p so =
          add_first g (reads_pipeline n D p so) (λ x C e good.
          add_first g (add_repeats g (and_or_turn inner) (AndOrGood C) (AndOrGood C) (AndOrGood C)
          (reads_and_or_turn C) (λ a E d all. all) (λ a E d all. all) (and_or_so_far [] x.1) C e
          (opens_none g fill_and_or_part tt))
          (λ a E d all. add_gives g (and_or_open x.0 a.parts good all)))

      -- an entry is good where its and-or list is, and so it is read, with its separator and its comment
      entry_open : {D E : Row Due} (a : AnAndOr) (background blank : Bool) (c : Option Span) →
          GoodOwnComment (option_map (shape_of_comment B) c) → OpenAndOr D a E
          → OpenEntry D (entry (command a) background blank c) E
      unfolding fill_entry fill_content
      entry_open a background blank c comment one =
          opens_one g (entry (command a) background blank c) (λ b. entry (command b) background blank c) (λ ts. refl)
          (λ b good. (good, comment)) one

      pub reads_entry : (blank : Bool) (n : Next) (D : Row Due) (p : ℕ) → Stands g Command n p
          → Adds g D (an_entry inner blank n)
          (λ x E e. OpenEntry D x.entry E × (is_some x.parted ≡ true → Stands g Command x.next e)) p
      unfolding an_entry
      reads_entry blank n D p so =
          add_first g (reads_and_or n D p so)
          (λ a E e one. read_first g (reads_separator g a.1 e)
          (λ s f two. read_first g (reads_comment B g here (is_some s.0 ≡ true) s.1 f two) (λ c h three.
          add_gives g (entry_open a.0 _ blank c.0 three.0 one, (λ on. three.1 (parted_some s.0 on))))))
