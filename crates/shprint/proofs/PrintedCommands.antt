-- Commands, pipelines and and-or lists: what is printed for them is read as of their shape, if the compound
-- commands at their level are.
use Rattle.std.proofs.Common.{◌≡◌, ℕ, zero, suc, ◌+◌, ◌<◌, Bool, true, false, ◌||◌, List, List as Row, [], ◌∷◌, ◌++◌, length, drop, codes, Option, Some, None, is_some, refl, sym, ap, subst, ◌∙◌, arith, append_assoc, append-nil}
use Rattle.std.proofs.Math.Bool.{or-true}
use Rattle.std.proofs.lemmas.Bool.{and_parts}
use Rattle.shgrammar.specs.declared.edition.Edition.{Edition}
use Rattle.shgrammar.specs.declared.token.Next.{Next}
use Rattle.shgrammar.specs.declared.token.Opener.{Opener}
use Rattle.shgrammar.specs.declared.token.Position.{Position}
use Rattle.shgrammar.specs.declared.token.Position.TheVariants.{Command, Suffix}
use Rattle.shgrammar.specs.declared.token.Token.{Token}
use Rattle.shgrammar.specs.declared.token.Token.TheVariants as tokens
use Rattle.shgrammar.specs.Characters.{ampersand, exclamation_mark, left_parenthesis, right_parenthesis, space, vertical_line}
use Rattle.shgrammar.specs.Bytes.{past_byte, past_blanks}
use Rattle.shgrammar.specs.Comments.{span}
use Rattle.shgrammar.specs.Tokens.{is_comment}
use Rattle.shgrammar.specs.Sights.{is_a_name, one_byte}
use Rattle.shgrammar.specs.Form.{◌>>=◌, ◌>>◌, by, move, leads_on, again, done, many}
use Rattle.shgrammar.specs.Levels.{level}
use Rattle.shast.specs.Nodes.{word_span}
use Rattle.shast.specs.Normal.{is_normal_and_or, are_normal_and_ors, is_normal_pipeline, are_normal_pipes, is_normal_join, is_normal_compound, is_normal_command}
use Rattle.shgrammar.specs.Commands.{an_and_or, one_pipeline, and_or_turn, and_or_so_far, a_bang, a_pipeline, begins_pipeline, and_or_operator_of, is_pipe, pipes_so_far, one_command, pipe_turn, a_command, a_join, begins_simple, opener_of, is_newline_token, is_bang, with_redirect_list, is_word, is_paren, a_word_command, compound_by}
use Rattle.shgrammar.proofs.WordsAnywhere.{word_span as spanned}
use Rattle.shast.specs.Opened.{items_bodies, and_or_bodies, and_or_parts_bodies, pipeline_bodies, pipes_bodies, command_bodies, compound_bodies, open_items, open_and_or, open_and_or_parts, open_pipeline, open_pipes, open_command, open_compound, open_form}
use Rattle.shast.specs.declared.tree.AndOrOperator.{AndOrOperator}
use Rattle.shast.specs.declared.tree.AndOrOperator.TheVariants.{And, Or}
use Rattle.shast.specs.declared.tree.Span.{Span}
use Rattle.shast.specs.Spelling.{and_or_text}
use Rattle.shast.specs.Shape.{Text, Shape, text_at, shape_of_items, shape_of_command, shape_of_join, shape_of_pipes, shape_of_bang, shape_of_pipeline, shape_of_and_or, shape_of_and_or_parts, shape_of_form}
use Rattle.shast.specs.Tree.{AJoinOf, AnItem, AnAndOrOf, and_or, AnAndOrPart, and_or_parts_of, APipeline, APipelineOf, pipeline, AndOrPartsOf, no_and_or, more_and_or, PipelinePartsOf, no_pipe, more_pipes, APipelinePart, pipeline_parts_of, ACompoundOf, formed, ACommandOf, ACommand, compound, function, items_of, ItemsOf, no_item, with_redirects, simple, no_subst}
use Rattle.shprint.specs.declared.layout.Layout.{Layout}
use Rattle.shprint.specs.Marks.{text, Marks, one}
use Rattle.shprint.specs.Printed.{print_form, print_and_or, print_bang, print_pipeline, print_and_or_parts, print_join, print_pipes, print_compound, print_command, operand_margin, breaks_line, print_item, print_items, print_simple, print_function_gap}
use Rattle.shprint.proofs.Tokens.{open_token, bang_here, byte_here, start_here, Gap, all_blank, no_gap, no_word}
use Rattle.shprint.proofs.Gives.{Gives, gives_on, told_here, ◌⟫◌, given_here, seen_here, pushed_here, first_of, second_of, last_turn, one_turn}
use Rattle.shprint.proofs.Held.{At, Followed, Held, StandsIn, g, lay, state, text_of_span, texts_of}
use Rattle.shprint.proofs.Good.{of_command, GoodRedirects, GoodAndOr, GoodParts, GoodPipeline, GoodPipes, GoodCompound, GoodCommand, GoodComments, GoodItems, none_more, one_more, SomeItem, GoodBody, GoodFunction, parts_of_function}
use Rattle.shprint.proofs.PrintedText.{laid_text, deeper_blank, deeper_some, operand_blank, begins_command, no_other, join_rest, join_parted, operator_token, AddsBodies, at_text, some_here, leads, edition_token, edition_next, edition_next_after, edition_same, next_read, RowRead, Follower, Opens, margin_gap, join_read, follower_after, space_then, pipe_follower, operator_follower, Begins, no_sharp, begins_operand, PipelineBegins, printed_word, one_moved}
use Rattle.shprint.proofs.PrintedItems.{items_follow, ItemThere, item_there, items_read, simple_command}

-- ---- commands

-- a compound command and the redirections after it
abbrev pub bare_compound : Shape ACompoundOf → Shape ACompoundOf
bare_compound (formed form mark redirects) = formed form mark no_item

-- the redirections after it
abbrev redirects_of : Shape ACompoundOf → Shape ItemsOf
redirects_of (formed form mark redirects) = redirects

-- the bodies of both, one after the other
bodies_parted : (c : Shape ACompoundOf) (ts : Row Text) →
    compound_bodies (bare_compound c) (items_bodies (redirects_of c) ts) ≡ compound_bodies c ts
unfolding compound_bodies items_bodies
bodies_parted (formed form mark redirects) ts = refl

-- what begins a simple command begins a command, and so does an opener
begins_by : (t : Token) → begins_simple t ≡ true → begins_command t ≡ true
begins_by t e = rw e refl

pub opens_by : (t : Token) (o : Opener) → opener_of t ≡ Some o → begins_command t ≡ true
opens_by t o e = rw e (or-true (begins_simple t))

module _ (y : Layout) where
  -- what is printed of a compound command, by these two
  compound_printed : (m : Text) (c : Shape ACompoundOf) (rest : Marks)
      → print_compound y m c ++ rest ≡ print_compound y m (bare_compound c)
      ++ (print_items y m (redirects_of c) ++ rest)
  compound_printed m (formed form mark redirects) rest =
      append_assoc (print_form y m form) (print_items y m redirects) rest
      ∙ sym (append_assoc (print_form y m form) [] (print_items y m redirects ++ rest))

  -- the name of a function, and what stands after it
  abbrev pub function_rest : Text → Row Text → Shape ACompoundOf → Marks → Marks
  function_rest m cs body rest = print_function_gap y m cs body ++ (print_compound y m body ++ rest)

  -- what is printed of a function, by its name
  function_is : (m name : Text) (cs : Row Text) (body : Shape ACompoundOf) (rest : Marks)
      → print_command y m (function name cs body) ++ rest ≡ text name ∷ text (codes "()")
      ∷ function_rest m cs body rest
  function_is m name cs body rest =
      ap (λ ks. text name ∷ text (codes "()") ∷ ks)
      (append_assoc (print_function_gap y m cs body) (print_compound y m body) rest)

-- what is known of the compound commands at this level
pub record CompoundsRead {edition : Edition} {B T : List ℕ} {o : ℕ} (S : StandsIn edition B T o) (room : ℕ)
    (y : Layout) : Type 0 where
  pub opens : (h : Held) (m : Text) (c : Shape ACompoundOf) (p : ℕ) (rest : Marks) → GoodCompound edition room c →
      At S h p (print_compound y m c ++ rest) → (o : Opener) × Opens S p o
  pub back : (h : Held) (m : Text) (c : Shape ACompoundOf) (p : ℕ) (rest : Marks) (o : Opener) →
      all_blank m ≡ true → GoodCompound edition room c → is_normal_compound c ≡ true
      → Followed rest → Opens S p o → At S h p (print_compound y m (bare_compound c) ++ rest) →
      RowRead S h ((level room).compound o) p rest (compound_bodies (bare_compound c))
      (λ v. shape_of_command B v ≡ open_command [] (compound (bare_compound c)))
  pub function_back : (h : Held) (m : Text) (name : Span) (cs : Row Text) (body : Shape ACompoundOf) (p : ℕ)
      (rest : Marks) (t : Token) → all_blank m ≡ true → GoodComments cs → GoodBody edition room body
      → is_normal_compound body ≡ true → Follower S rest t → begins_simple t ≡ false →
      At S h p (text (codes "()") ∷ (print_function_gap y m cs body ++ (print_compound y m body ++ rest)))
      → RowRead S h ((level room).function name) p rest (compound_bodies body)
      (λ v. shape_of_command B v ≡ open_command [] (function (text_at B name) cs body))

module _ {edition : Edition} {B T : List ℕ} {o : ℕ} {S : StandsIn edition B T o} {room : ℕ} {y : Layout}
    (fine : CompoundsRead S room y) where
  -- ---- a command

  -- the redirections of a good command are good
  good_redirects : (c : Shape ACompoundOf) → GoodCompound edition room c → GoodRedirects edition room (redirects_of c)
  good_redirects c good = by_room room c good
    where
      by_room : (room : ℕ) (c : Shape ACompoundOf) → GoodCompound edition room c →
          GoodRedirects edition room (redirects_of c)
      by_room zero (formed form mark redirects) good = absurd good
      by_room (suc room) (formed form mark redirects) good = good.1

  -- the shape of a compound command with its redirections
  with_shape : (v : ACommand) (is : Row AnItem) (c : Shape ACompoundOf) →
      shape_of_command B v ≡ open_command [] (compound (bare_compound c)) →
      shape_of_items B (items_of is) ≡ open_items [] (redirects_of c)
      → shape_of_command B (with_redirects v (items_of is)) ≡ open_command [] (compound c)
  unfolding open_command open_compound
  with_shape (simple items) is (formed form mark redirects) e f = absurd cc
  with_shape (compound (formed own span others)) is (formed form mark redirects) e f =
      let same : shape_of_form B own ≡ open_form [] form = cc in rw (same, f) refl
  with_shape (function name ds body) is (formed form mark redirects) e f = absurd cc

  -- a simple command begins with an item
  simple_begins : (h : Held) (m : Text) {last : Position} {is : Shape ItemsOf} (p : ℕ) (rest : Marks) →
      GoodItems edition room of_command Command is last → SomeItem is → Followed rest
      → At S h p (print_simple y m is ++ rest) → ItemThere S room Command p
  simple_begins h m p rest none_more some follow at = absurd some
  simple_begins h m p rest (one_more {i = i} {is = is} good others) some follow at =
      item_there S room h y good p (print_items y m is ++ rest) (items_follow y m is rest follow)
      (at ∙ ap (lay h) (append_assoc (print_item y i) (print_items y m is) rest))

  -- a function begins with its name
  name_there : (h : Held) (m name : Text) (cs : Row Text) (body : Shape ACompoundOf) (p : ℕ) (rest : Marks) →
      At S h p (print_command y m (function name cs body) ++ rest)
      → drop p T ≡ name ++ left_parenthesis ∷ right_parenthesis ∷ lay h (function_rest y m cs body rest)
  name_there h m name cs body p rest at =
      at ∙ ap (lay h) (function_is y m name cs body rest)
      ∙ laid_text h name (text (codes "()") ∷ function_rest y m cs body rest)
      ∙ ap (λ z. name ++ z) (laid_text h (codes "()") (function_rest y m cs body rest))

  -- each command begins where it is printed
  pub command_begins : (h : Held) (m : Text) (c : Shape ACommandOf) (p : ℕ) (rest : Marks) →
      GoodCommand edition room c → Followed rest → At S h p (print_command y m c ++ rest) → Begins S p
  command_begins h m (simple is) p rest good follow at =
      let b = simple_begins h m p rest good.items good.some follow at in
      record { start = b.start; command = begins_by (edition_token S Command p) b.begins }
  command_begins h m (compound c) p rest good follow at =
      let b = fine.opens h m c p rest good at in
      record { start = b.1.start; command = opens_by (edition_token S Command p) b.0 b.1.opener }
  command_begins h m (function name comments body) p rest good follow at =
      let before = (parts_of_function edition room name comments body good).before in
      let found = before.there (g S) p _ (name_there h m name comments body p rest at) in
      record {
        start = record { place = found.place; no_blank = found.no_blank };
        command = begins_by (edition_token S Command p) (ap begins_simple (edition_same S found.token_is));
      }

  -- just after the name of a function its `(` is told
  bracket_after_name : (h : Held) (e : ℕ) (ms : Marks) → At S h e (text (codes "()") ∷ ms) →
      (is_paren (edition_next S Suffix e).token ≡ true) × (past_blanks T e ≡ e)
  bracket_after_name h e ms at =
      let head = at ∙ laid_text h (codes "()") ms in
      let gap = no_gap (start_here (byte_here T e left_parenthesis (right_parenthesis ∷ lay h ms) refl head) refl) in (
        ap (λ (n : Next). is_paren n.token) (edition_next_after S Suffix gap)
            ∙ ap is_paren (edition_same S (open_token Suffix T e (right_parenthesis ∷ lay h ms) head)),
        gap.blanks,
      )

  -- a function is read by its name, the brackets and what stands after them
  function_command : (h : Held) (m name : Text) (cs : Row Text) (body : Shape ACompoundOf) (n : Next) (p : ℕ)
      (rest : Marks) (t : Token) → all_blank m ≡ true → GoodFunction edition room name cs body →
      is_normal_compound body ≡ true
      → Follower S rest t → begins_simple t ≡ false → n.token ≡ edition_token S Command p →
      At S h p (print_command y m (function name cs body) ++ rest) →
      RowRead S h (a_command (level room) n) p rest (command_bodies (function name cs body))
      (λ v. shape_of_command B v ≡ open_command [] (function name cs body))
  unfolding a_command a_word_command open_command command_bodies
  function_command h m name cs body n p rest t blank good normal f none token_is at =
      let there = name_there h m name cs body p rest at in
      let found = good.before.there (g S) p _ there in
      let v = found.word B (sym S.here) in
      let e = p + length name in
      let X = function_rest y m cs body rest in
      let at_e = at_text S h p name (text (codes "()") ∷ X) (at ∙ ap (lay h) (function_is y m name cs body rest)) in
      let bracket = bracket_after_name h e X at_e in
      let r = fine.function_back h m
      (span o p e) cs body e rest t blank good.own good.inside normal f none at_e in
      let name_is = good.before.names T p _ there in
      let place : word_span v.0 ≡ span o p e =
      ap word_span (spanned (level room) (g S) (state h p) (state h e) v.0 _
      (printed_word S room h name no_subst p v).reads).1 in
      let on_blank = subst (λ q. Gives (g S) ((level room).function (span o p e)) (state h q)
      (r.value, edition_next S Command r.«end») (state r.later (past_blanks T r.«end»))) (sym bracket.1) r.reads in
      let after_name = subst (λ z. Gives (g S) ((level room).function z) (state h (past_blanks T e))
      (r.value, edition_next S Command r.«end») (state r.later (past_blanks T r.«end»))) (sym place) on_blank in
      record {
        value = r.value;
        «end» = r.«end»;
        later = r.later;
        at = r.at;
        texts = r.texts;
        reads = first_of _ _ (ap is_word (token_is ∙ edition_same S found.token_is))
            (seen_here is_a_name ⟫ printed_word S room h name no_subst p v ⟫ next_read S h Suffix e
            ⟫ first_of _ _ bracket.0 (first_of _ _ name_is after_name));
        is = r.is ∙ ap (λ z. open_command [] (function z cs body))
            (text_of_span S p name (left_parenthesis ∷ right_parenthesis ∷ lay h X) there);
      }

  -- a compound command with the redirections after it
  pub whole_compound : (h : Held) (m : Text) (c : Shape ACompoundOf) (n : Next) (p : ℕ) (rest : Marks) (t : Token)
      → all_blank m ≡ true → GoodCompound edition room c → is_normal_compound c ≡ true
      → Follower S rest t → begins_simple t ≡ false → n.token ≡ edition_token S Command p →
      At S h p (print_compound y m c ++ rest) →
      RowRead S h (compound_by (level room) n (opener_of n.token)) p rest (compound_bodies c)
      (λ v. shape_of_command B v ≡ open_command [] (compound c))
  unfolding with_redirect_list
  whole_compound h m c n p rest t blank good normal f none token_is at =
      let P = print_items y m (redirects_of c) in
      let b = fine.opens h m c p rest good at in
      let opener_is : opener_of n.token ≡ Some b.0 = ap opener_of token_is ∙ b.1.opener in
      let d = deeper_some y m in
      let r = fine.back h m c p (P ++ rest) b.0 blank good normal
      (items_follow y m (redirects_of c) rest f.follow) b.1 (at ∙ ap (lay h) (compound_printed y m c rest)) in
      let is = items_read S room y m d.0 d.1 (deeper_blank y m blank) d.2 rest f.follow
      (follower_after S f none) r.later
      (good_redirects c good).items [] r.«end» tt r.at in
      let read : Gives (g S) ((level room).compound b.0 >>= with_redirect_list (level room)) (state h p)
      (with_redirects r.value (items_of is.more_items_read), edition_next S Command is.«end»)
      (state is.later (past_blanks T is.«end»)) =
      r.reads ⟫ (is.reads ⟫ given_here) in
      record {
        value = with_redirects r.value (items_of is.more_items_read);
        «end» = is.«end»;
        later = is.later;
        at = is.at;
        texts = λ ts. is.texts ts ∙ r.texts (items_bodies (redirects_of c) ts)
            ∙ ap (λ us. texts_of S h ++ us) (bodies_parted c ts);
        reads = rw opener_is read;
        is = with_shape r.value is.more_items_read c r.is is.shape;
      }

  -- each command is read where it is printed
  pub command_read : (h : Held) (m : Text) (c : Shape ACommandOf) (n : Next) (p : ℕ) (rest : Marks) (t : Token) →
      all_blank m ≡ true → GoodCommand edition room c → is_normal_command c ≡ true
      → Follower S rest t → begins_simple t ≡ false → n.token ≡ edition_token S Command p →
      At S h p (print_command y m c ++ rest) →
      RowRead S h (a_command (level room) n) p rest (command_bodies c) (λ v. shape_of_command B v ≡ open_command [] c)
  unfolding a_command command_bodies
  command_read h m (simple is) n p rest t blank good normal f none token_is at =
      let d = deeper_some y m in
      simple_command S room y m d.0 d.1 (deeper_blank y m blank) d.2 rest f.follow
      (follower_after S f none) h is n p good
      (and_parts _ _ normal).0 token_is at
  command_read h m (compound c) n p rest t blank good normal f none token_is at =
      let b = fine.opens h m c p rest good at in
      let r = whole_compound h m c n p rest t blank good normal f none token_is at in
      record {
        value = r.value;
        «end» = r.«end»;
        later = r.later;
        at = r.at;
        texts = r.texts;
        reads = second_of _ _ (ap is_word token_is ∙ no_word (edition_token S Command p) b.1.no_item)
            (second_of _ _ (ap begins_simple token_is ∙ b.1.no_item) r.reads);
        is = r.is;
      }
  command_read h m (function name comments body) n p rest t blank good normal f none token_is at =
      function_command h m name comments body n p rest t blank
      (parts_of_function edition room name comments body good) normal f none token_is at

  -- ---- pipelines

  -- what is printed of further commands, by the first one
  pipe_marks : (m : Text) (b : Bool) (j : AJoinOf Text) (c : Shape ACommandOf) (cs : Shape PipelinePartsOf)
      (rest : Marks)
      → print_pipes y m b (more_pipes j c cs) ++ rest
      ≡ text (codes " ") ∷ text (codes "|")
      ∷ (join_rest y m j ++ (print_command y (operand_margin y m (b || breaks_line j)) c
      ++ (print_pipes y m (b || breaks_line j) cs ++ rest)))
  pipe_marks m b j c cs rest =
      let J = print_join y m (codes "|") j in
      let C = print_command y (operand_margin y m (b || breaks_line j)) c in
      let P = print_pipes y m (b || breaks_line j) cs in
      append_assoc (J ++ C) P rest ∙ append_assoc J C (P ++ rest)

  -- what follows a command of a pipeline
  record PipesFollow (ms : Marks) : Type 0 where
    token : Token
    follower : Follower S ms token
    no_item : begins_simple token ≡ false

  -- a `|` follows it, or what stands after the pipeline
  pipes_follow : (m : Text) (b : Bool) (cs : Shape PipelinePartsOf) (rest : Marks) (t : Token) → Follower S rest t →
      begins_simple t ≡ false → PipesFollow (print_pipes y m b cs ++ rest)
  pipes_follow m b no_pipe rest t f none = record { token = t; follower = f; no_item = none }
  pipes_follow m b (more_pipes j c cs) rest t f none =
      let ms = print_command y (operand_margin y m (b || breaks_line j)) c
      ++ (print_pipes y m (b || breaks_line j) cs ++ rest) in
      record {
        token = tokens.Pipe;
        follower = subst (λ ks. Follower S ks tokens.Pipe) (sym (pipe_marks m b j c cs rest))
            (pipe_follower S (join_rest y m j ++ ms) (λ h. join_parted h y m j.broken j.comments ms));
        no_item = refl;
      }

  -- what is read of the commands after others
  record PipesRead (h : Held) (acc : Row APipelinePart) (n : Next) (p : ℕ) (cs : Shape PipelinePartsOf)
      (rest : Marks) : Type 0 where
    parts : Row APipelinePart
    «end» : ℕ
    later : Held
    at : At S later «end» rest
    reads : Gives (g S) (many (pipe_turn (level room)) (pipes_so_far acc n)) (state h p)
        (pipes_so_far (acc ++ parts) (edition_next S Command «end»)) (state later (past_blanks T «end»))
    shape : shape_of_pipes B (pipeline_parts_of parts) ≡ open_pipes [] cs
    texts : AddsBodies S h later (pipes_bodies cs)

  -- the shape of further commands by that of the first and those of the others
  pipes_shape : (q : APipelinePart) (qs : Row APipelinePart) (j : AJoinOf Text) (c : Shape ACommandOf)
      (cs : Shape PipelinePartsOf) → shape_of_join B q.join ≡ j → shape_of_command B q.command ≡ open_command [] c
      → shape_of_pipes B (pipeline_parts_of qs) ≡ open_pipes [] cs →
      shape_of_pipes B (pipeline_parts_of (q ∷ qs)) ≡ open_pipes [] (more_pipes j c cs)
  unfolding open_pipes
  pipes_shape q qs j c cs e f i = rw (e, f, i) refl

  -- one command before others
  pipes_more : (h k later : Held) (acc : Row APipelinePart) (n : Next) (p : ℕ) (q : APipelinePart) (next : Next)
      (r : ℕ) (qs : Row APipelinePart) (z : Next) (e : ℕ)
      → Gives (g S) (pipe_turn (level room) (pipes_so_far acc n)) (state h p)
      (again (pipes_so_far (acc ++ q ∷ []) next)) (state k r)
      → leads_on (g S) (state h p) (state k r) ≡ true
      → Gives (g S) (many (pipe_turn (level room)) (pipes_so_far (acc ++ q ∷ []) next)) (state k r)
      (pipes_so_far ((acc ++ q ∷ []) ++ qs) z) (state later e)
      → Gives (g S) (many (pipe_turn (level room)) (pipes_so_far acc n)) (state h p) (pipes_so_far (acc ++ (q ∷ qs)) z)
      (state later e)
  pipes_more h k later acc n p q next r qs z e one on rest =
      subst (λ all. Gives (g S) (many (pipe_turn (level room)) (pipes_so_far acc n)) (state h p) (pipes_so_far all z)
      (state later e))
      (append_assoc acc (q ∷ []) qs) (one_turn (pipe_turn (level room)) one on rest)

  -- one more command
  record PipeRead (h : Held) (acc : Row APipelinePart) (n : Next) (p : ℕ) (j : AJoinOf Text)
      (c : Shape ACommandOf) (ms : Marks) : Type 0 where
    part : APipelinePart
    «end» : ℕ
    later : Held
    at : At S later «end» ms
    reads : Gives (g S) (pipe_turn (level room) (pipes_so_far acc n)) (state h p)
        (again (pipes_so_far (acc ++ part ∷ []) (edition_next S Command «end»))) (state later (past_blanks T «end»))
    on : leads_on (g S) (state h p) (state later (past_blanks T «end»)) ≡ true
    join_is : shape_of_join B part.join ≡ j
    command_is : shape_of_command B part.command ≡ open_command [] c
    texts : AddsBodies S h later (command_bodies c)

  -- a `|` is read with its join and its command
  one_pipe : (h : Held) (m : Text) (d : Text) (j : AJoinOf Text) (c : Shape ACommandOf) (acc : Row APipelinePart)
      (n : Next) (q : ℕ) (ms : Marks) (t : Token) → all_blank m ≡ true → all_blank d ≡ true
      → is_normal_join j ≡ true → GoodComments j.comments → GoodCommand edition room c →
      is_normal_command c ≡ true → Follower S ms t → begins_simple t ≡ false
      → is_pipe n.token ≡ true → n.broken ≡ false →
      At S h q (text (codes "|") ∷ (join_rest y m j ++ (print_command y d c ++ ms))) → PipeRead h acc n q j c ms
  unfolding pipe_turn one_command
  one_pipe h m d j c acc n q ms t blank blank_d normal_j good_j good normal f none pipe_is unbroken at =
      let X = print_command y d c ++ ms in
      let there = at ∙ laid_text h (codes "|") (join_rest y m j ++ X) in
      let r = byte_here T q vertical_line (lay h (join_rest y m j ++ X)) refl there in
      let moved = one_moved S h q r.place_after in
      let join_got = join_read S h y m X (deeper_blank y m blank)
      (λ h p at. begins_operand S p (command_begins h d c p ms good f.follow at)) j.broken j.comments
      (q + 1) normal_j good_j (at_text S h q (codes "|") (join_rest y m j ++ X) at) in
      let command_got = command_read join_got.later d c join_got.next join_got.q ms t blank_d good normal f none
      join_got.token_is join_got.at in
      let part : APipelinePart = record { join = join_got.join; command = command_got.value } in
      let joined_it : Gives (g S) (a_join n.broken) (state h (q + 1)) (join_got.join, join_got.next)
      (state join_got.later join_got.q) = rw unbroken join_got.reads in
      let low_j = gives_on (a_join false) _ _ _ join_got.reads in
      let low_c = gives_on (a_command (level room) join_got.next) _ _ _ command_got.reads in
      record {
        part = part;
        «end» = command_got.«end»;
        later = command_got.later;
        at = command_got.at;
        reads = first_of _ _ pipe_is
            (told_here (by (codes "|")) moved ⟫ joined_it ⟫ command_got.reads ⟫ pushed_here acc part ⟫ given_here);
        on = leads S h command_got.later q (past_blanks T command_got.«end») (omega (arith, low_j, low_c))
            (some_here S q vertical_line (lay h (join_rest y m j ++ X)) there);
        join_is = join_got.shape;
        command_is = command_got.is;
        texts = λ ts. command_got.texts ts ∙ join_got.texts (command_bodies c ts);
      }

  -- all further commands are read
  pipes_read : (h : Held) (m : Text) (b : Bool) (cs : Shape PipelinePartsOf) (acc : Row APipelinePart) (e : ℕ)
      (rest : Marks) (t : Token) → all_blank m ≡ true → GoodPipes edition room cs → are_normal_pipes cs ≡ true
      → Follower S rest t → begins_simple t ≡ false → is_pipe t ≡ false → At S h e (print_pipes y m b cs ++ rest) →
      PipesRead h acc (edition_next S Command e) (past_blanks T e) cs rest
  unfolding pipe_turn open_pipes pipes_bodies
  pipes_read h m b no_pipe acc e rest t blank good normal f none not_pipe at = record {
    parts = [];
    «end» = e;
    later = h;
    at = at;
    reads = rw (append-nil acc)
        (last_turn (pipe_turn (level room))
        (second_of _ _ (ap (λ (n : Next). is_pipe n.token) (f.seen_as h e at Command) ∙ not_pipe) given_here));
    shape = refl;
    texts = λ ts. refl;
  }
  pipes_read h m b (more_pipes j c cs) acc e rest t blank good normal f none not_pipe at =
      let d = operand_margin y m (b || breaks_line j) in
      let ms = print_pipes y m (b || breaks_line j) cs ++ rest in
      let X = print_command y d c ++ ms in
      let there = at ∙ ap (lay h) (pipe_marks m b j c cs rest) in
      let n_is = (pipe_follower S (join_rest y m j ++ X) (λ h. join_parted h y m j.broken j.comments X)).seen_as h e
      there Command in
      let gap = space_then S h e vertical_line [] (join_rest y m j ++ X) refl refl there in
      let parts = and_parts _ _ normal in
      let first_parts = and_parts _ _ parts.0 in
      let q = past_blanks T e in
      let at_q = subst (λ r. At S h r (text (codes "|") ∷ (join_rest y m j ++ X))) (sym gap.blanks)
      (at_text S h e (codes " ") (text (codes "|") ∷ (join_rest y m j ++ X)) there) in
      let follow = pipes_follow m (b || breaks_line j) cs rest t f none in
      let one = one_pipe h m d j c acc (edition_next S Command e) q ms follow.token blank
      (operand_blank y m (b || breaks_line j) blank) first_parts.0 good.0 good.1 first_parts.1 follow.follower
      follow.no_item
      (ap (λ (n : Next). is_pipe n.token) n_is) (ap (λ (n : Next). n.broken) n_is) at_q in
      let others = pipes_read one.later m (b || breaks_line j) cs
      (acc ++ one.part ∷ []) one.«end» rest t blank good.2 parts.1 f none not_pipe one.at in
      record {
        parts = one.part ∷ others.parts;
        «end» = others.«end»;
        later = others.later;
        at = others.at;
        reads = pipes_more h one.later others.later acc (edition_next S Command e) q one.part
            (edition_next S Command one.«end»)
            (past_blanks T one.«end») others.parts (edition_next S Command others.«end»)
            (past_blanks T others.«end») one.reads one.on others.reads;
        shape = pipes_shape one.part others.parts j c cs one.join_is one.command_is others.shape;
        texts = λ ts. others.texts ts ∙ one.texts (pipes_bodies cs ts);
      }

  or_between : (a b c : Bool) → (a || c) ≡ true → ((a || b) || c) ≡ true
  or_between true b c e = refl
  or_between false b c e = rw e (or-true b)

  -- a command begins a pipeline, and so does `!`
  command_pipeline : (p : ℕ) → Begins S p → PipelineBegins S p
  command_pipeline p b =
      let t = edition_token S Command p in
      record {
        operand = begins_operand S p b;
        begins = or_between (begins_simple t) (is_bang t) (is_some (opener_of t)) b.command;
      }

  bang_begins : (h : Held) (p : ℕ) (ms : Marks) → At S h p (text (codes "! ") ∷ ms) → PipelineBegins S p
      × (is_bang (edition_token S Command p) ≡ true)
  bang_begins h p ms at =
      let k = bang_here T p space (lay h ms) refl refl (at ∙ laid_text h (codes "! ") ms) in (
        record {
          operand = record {
            start = k.start;
            no_comment = no_sharp S p k.start.place (ap is_comment (edition_same S k.token));
            no_newline = ap is_newline_token (edition_same S k.token);
          };
          begins = ap begins_pipeline (edition_same S k.token);
        },
        ap is_bang (edition_same S k.token),
      )

  -- what is printed of a pipeline, by its parts
  pipeline_marks : (m : Text) (bang : Option (Unit {0})) (c : Shape ACommandOf) (cs : Shape PipelinePartsOf)
      (rest : Marks)
      → print_pipeline y m (pipeline bang c cs) ++ rest ≡ print_bang bang
      ++ (print_command y m c ++ (print_pipes y m false cs ++ rest))
  pipeline_marks m bang c cs rest =
      let C = print_command y m c in
      let P = print_pipes y m false cs in
      append_assoc (print_bang bang ++ C) P rest ∙ append_assoc (print_bang bang) C (P ++ rest)

  -- a pipeline begins where it is printed
  pub pipeline_begins : (h : Held) (m : Text) (x : Shape APipelineOf) (p : ℕ) (rest : Marks) (t : Token) →
      GoodPipeline edition room x → Follower S rest t → begins_simple t ≡ false
      → At S h p (print_pipeline y m x ++ rest) → PipelineBegins S p
  pipeline_begins h m (pipeline None c cs) p rest t good f none at =
      command_pipeline p (command_begins h m c p (print_pipes y m false cs ++ rest) good.0
      (pipes_follow m false cs rest t f none).follower.follow
      (at ∙ ap (lay h) (pipeline_marks m None c cs rest)))
  pipeline_begins h m (pipeline (Some mark) c cs) p rest t good f none at =
      (bang_begins h p (print_command y m c ++ (print_pipes y m false cs ++ rest))
      (at ∙ ap (lay h) (pipeline_marks m (Some mark) c cs rest))).0

  -- what stands before the command
  record BangRead (h : Held) (n : Next) (p : ℕ) (bang : Option (Unit {0})) (ms : Marks) : Type 0 where
    value : Option Span
    next : Next
    q : ℕ
    reads : Gives (g S) (a_bang n) (state h p) (value, next) (state h q)
    at : At S h q ms
    token_is : next.token ≡ edition_token S Command q
    shape : shape_of_bang value ≡ bang

  -- `!` is read, or none
  bang_read : (h : Held) (n : Next) (p : ℕ) (bang : Option (Unit {0})) (ms : Marks) →
      ((q : ℕ) → At S h q ms → Begins S q) → n.token ≡ edition_token S Command p → At S h p (print_bang bang ++ ms) →
      BangRead h n p bang ms
  unfolding a_bang
  bang_read h n p None ms begins token_is at =
      let other = no_other (edition_token S Command p) (begins p at).command in
      record {
        value = None;
        next = n;
        q = p;
        reads = second_of _ _ (ap is_bang token_is ∙ other.bang) given_here;
        at = at;
        token_is = token_is;
        shape = refl;
      }
  bang_read h n p (Some mark) ms begins token_is at =
      let there = at ∙ laid_text h (codes "! ") ms in
      let r = byte_here T p exclamation_mark (space ∷ lay h ms) refl there in
      let moved = one_moved S h p r.place_after in
      let at_space : At S h (p + 1) (text (codes " ") ∷ ms) = r.rest ∙ sym (laid_text h (codes " ") ms) in
      let at_after = at_text S h (p + 1) (codes " ") ms at_space in
      let gap = margin_gap S h (codes " ") (p + 1) ms refl at_space (begins (p + 1 + 1) at_after).start in
      record {
        value = Some (span o p (p + 1));
        next = edition_next S Command (p + 1);
        q = past_blanks T (p + 1);
        reads = first_of _ _ (ap is_bang token_is ∙ (bang_begins h p ms at).1)
            (told_here (by (codes "!")) moved ⟫ next_read S h Command (p + 1) ⟫ given_here);
        at = subst (λ q. At S h q ms) (sym gap.blanks) at_after;
        token_is = refl;
        shape = refl;
      }

  -- the shape of a pipeline by those of its parts
  pipeline_shape : (b : Option Span) (c : ACommand) (ps : Row APipelinePart) (bang : Option (Unit {0}))
      (d : Shape ACommandOf) (cs : Shape PipelinePartsOf)
      → shape_of_bang b ≡ bang → shape_of_command B c ≡ open_command [] d →
      shape_of_pipes B (pipeline_parts_of ps) ≡ open_pipes [] cs
      → shape_of_pipeline B (pipeline b c (pipeline_parts_of ps)) ≡ open_pipeline [] (pipeline bang d cs)
  unfolding open_pipeline
  pipeline_shape b c ps bang d cs e f i = rw (e, f, i) refl

  -- a pipeline is read where it is printed
  pub pipeline_read : (h : Held) (m : Text) (x : Shape APipelineOf) (n : Next) (p : ℕ) (rest : Marks) (t : Token)
      → all_blank m ≡ true → GoodPipeline edition room x → is_normal_pipeline x ≡ true
      → Follower S rest t → begins_simple t ≡ false → is_pipe t ≡ false → n.token ≡ edition_token S Command p →
      At S h p (print_pipeline y m x ++ rest)
      → RowRead S h (a_pipeline (level room) n) p rest (pipeline_bodies x)
      (λ v. shape_of_pipeline B v ≡ open_pipeline [] x)
  unfolding a_pipeline pipeline_bodies
  pipeline_read h m (pipeline bang c cs) n p rest t blank good normal f none not_pipe token_is at =
      let parts = and_parts _ _ normal in
      let follow = pipes_follow m false cs rest t f none in
      let ms = print_pipes y m false cs ++ rest in
      let bang_got = bang_read h n p bang (print_command y m c ++ ms)
      (λ q at. command_begins h m c q ms good.0 follow.follower.follow at) token_is
      (at ∙ ap (lay h) (pipeline_marks m bang c cs rest)) in
      let command_got = command_read h m c bang_got.next bang_got.q ms follow.token blank good.0 parts.0
      follow.follower follow.no_item bang_got.token_is bang_got.at in
      let pipes_got = pipes_read command_got.later m false cs [] command_got.«end» rest t blank good.1 parts.1
      f none not_pipe command_got.at in
      record {
        value = pipeline bang_got.value command_got.value (pipeline_parts_of pipes_got.parts);
        «end» = pipes_got.«end»;
        later = pipes_got.later;
        at = pipes_got.at;
        texts = λ ts. pipes_got.texts ts ∙ command_got.texts (pipes_bodies cs ts);
        reads = bang_got.reads ⟫ command_got.reads ⟫ pipes_got.reads ⟫ given_here;
        is = pipeline_shape bang_got.value command_got.value pipes_got.parts bang c cs bang_got.shape command_got.is
            pipes_got.shape;
      }

  -- ---- and-or lists

  -- what is printed of further pipelines, by the first one
  part_marks : (m : Text) (b : Bool) (k : AndOrOperator) (j : AJoinOf Text) (x : Shape APipelineOf)
      (xs : Shape AndOrPartsOf) (rest : Marks)
      → print_and_or_parts y m b (more_and_or k j x xs) ++ rest
      ≡ text (codes " ") ∷ text (and_or_text k)
      ∷ (join_rest y m j ++ (print_pipeline y (operand_margin y m (b || breaks_line j)) x
      ++ (print_and_or_parts y m (b || breaks_line j) xs ++ rest)))
  part_marks m b k j x xs rest =
      let J = print_join y m (and_or_text k) j in
      let X = print_pipeline y (operand_margin y m (b || breaks_line j)) x in
      let P = print_and_or_parts y m (b || breaks_line j) xs in
      append_assoc (J ++ X) P rest ∙ append_assoc J X (P ++ rest)

  -- an operator between pipelines begins no item
  operator_no_item : (k : AndOrOperator) → (begins_simple (operator_token k) ≡ false)
      × (is_pipe (operator_token k) ≡ false) × (and_or_operator_of (operator_token k) ≡ Some k)
  operator_no_item And = (refl, refl, refl)
  operator_no_item Or = (refl, refl, refl)

  -- what follows a pipeline of an and-or list
  record PartsFollow (ms : Marks) : Type 0 where
    token : Token
    follower : Follower S ms token
    no_item : begins_simple token ≡ false
    not_pipe : is_pipe token ≡ false

  -- an operator follows it, or what stands after the and-or list
  parts_follow : (m : Text) (b : Bool) (xs : Shape AndOrPartsOf) (rest : Marks) (t : Token) → Follower S rest t →
      begins_simple t ≡ false → is_pipe t ≡ false → PartsFollow (print_and_or_parts y m b xs ++ rest)
  parts_follow m b no_and_or rest t f none not_pipe =
      record { token = t; follower = f; no_item = none; not_pipe = not_pipe }
  parts_follow m b (more_and_or k j x xs) rest t f none not_pipe =
      let ms = print_pipeline y (operand_margin y m (b || breaks_line j)) x
      ++ (print_and_or_parts y m (b || breaks_line j) xs ++ rest) in
      let other = operator_no_item k in
      record {
        token = operator_token k;
        follower = subst (λ ks. Follower S ks (operator_token k)) (sym (part_marks m b k j x xs rest))
            (operator_follower S k (join_rest y m j ++ ms));
        no_item = other.0;
        not_pipe = other.1;
      }

  -- two bytes are passed
  two_moves : (h : Held) (q : ℕ) → past_byte T q ≡ q + 1 → past_byte T (q + 1) ≡ q + 1 + 1 →
      Gives (g S) (move one_byte >> move one_byte) (state h q) tt (state h (q + 2))
  two_moves h q one_is two_is =
      let e : q + 1 + 1 ≡ q + 2 = omega arith in
      subst (λ p. Gives (g S) (move one_byte >> move one_byte) (state h q) tt (state h p)) e
      (one_moved S h q one_is ⟫ one_moved S h (q + 1) two_is)

  -- no further pipeline is read where no operator stands
  no_part : (h : Held) (acc : Row AnAndOrPart) (n : Next) (p : ℕ) → and_or_operator_of n.token ≡ None →
      Gives (g S) (and_or_turn (level room) (and_or_so_far acc n)) (state h p) (done (and_or_so_far acc n)) (state h p)
  unfolding and_or_turn
  no_part h acc n p none = rw none given_here

  -- the bytes of an operator are passed
  operator_passed : (h : Held) (k : AndOrOperator) (q : ℕ) (ms : Marks) → At S h q (text (and_or_text k) ∷ ms) →
      Gives (g S) (move one_byte >> move one_byte) (state h q) tt (state h (q + 2))
  operator_passed h And q ms at =
      let there = at ∙ laid_text h (codes "&&") ms in
      let one_is = byte_here T q ampersand (ampersand ∷ lay h ms) refl there in
      let two_is = byte_here T (q + 1) ampersand (lay h ms) refl one_is.rest in
      two_moves h q one_is.place_after two_is.place_after
  operator_passed h Or q ms at =
      let there = at ∙ laid_text h (codes "||") ms in
      let one_is = byte_here T q vertical_line (vertical_line ∷ lay h ms) refl there in
      let two_is = byte_here T (q + 1) vertical_line (lay h ms) refl one_is.rest in
      two_moves h q one_is.place_after two_is.place_after

  -- what is read of an operator, with its join and its pipeline
  record PartRead (h : Held) (acc : Row AnAndOrPart) (n : Next) (p : ℕ) (k : AndOrOperator) (j : AJoinOf Text)
      (x : Shape APipelineOf) (ms : Marks) : Type 0 where
    part : AnAndOrPart
    «end» : ℕ
    later : Held
    at : At S later «end» ms
    reads : Gives (g S) (and_or_turn (level room) (and_or_so_far acc n)) (state h p)
        (again (and_or_so_far (acc ++ part ∷ []) (edition_next S Command «end»))) (state later (past_blanks T «end»))
    on : leads_on (g S) (state h p) (state later (past_blanks T «end»)) ≡ true
    operator_is : part.operator ≡ k
    join_is : shape_of_join B part.join ≡ j
    pipeline_is : shape_of_pipeline B part.pipeline ≡ open_pipeline [] x
    texts : AddsBodies S h later (pipeline_bodies x)

  -- each of the two operators has two bytes
  operator_length : (k : AndOrOperator) → length (and_or_text k) ≡ 2
  operator_length And = refl
  operator_length Or = refl

  -- one stands in the text
  operator_here : (h : Held) (k : AndOrOperator) (q : ℕ) (ms : Marks) → At S h q (text (and_or_text k) ∷ ms) →
      q < length T
  operator_here h And q ms at = some_here S q ampersand (ampersand ∷ lay h ms) (at ∙ laid_text h (codes "&&") ms)
  operator_here h Or q ms at = some_here S q vertical_line (vertical_line ∷ lay h ms) (at ∙ laid_text h (codes "||") ms)

  -- an operator is read with its join and its pipeline
  one_part : (h : Held) (m : Text) (d : Text) (k : AndOrOperator) (j : AJoinOf Text) (x : Shape APipelineOf)
      (acc : Row AnAndOrPart) (n : Next) (q : ℕ) (ms : Marks) (t : Token)
      → all_blank m ≡ true → all_blank d ≡ true → is_normal_join j ≡ true → GoodComments j.comments →
      GoodPipeline edition room x → is_normal_pipeline x ≡ true → Follower S ms t → begins_simple t ≡ false
      → is_pipe t ≡ false → and_or_operator_of n.token ≡ Some k → n.broken ≡ false →
      At S h q (text (and_or_text k) ∷ (join_rest y m j ++ (print_pipeline y d x ++ ms))) →
      PartRead h acc n q k j x ms
  unfolding and_or_turn one_pipeline
  one_part h m d k j x acc n q ms t blank blank_d normal_j good_j good normal f none not_pipe operator_is unbroken
      at =
      let X = print_pipeline y d x ++ ms in
      let moved = operator_passed h k q (join_rest y m j ++ X) at in
      let at_after = subst (λ n. At S h (q + n) (join_rest y m j ++ X)) (operator_length k)
      (at_text S h q (and_or_text k) (join_rest y m j ++ X) at) in
      let join_got = join_read S h y m X (deeper_blank y m blank)
      (λ h p at. (pipeline_begins h d x p ms t good f none at).operand) j.broken j.comments
      (q + 2) normal_j good_j at_after in
      let pipeline_got = pipeline_read join_got.later d x join_got.next join_got.q ms t blank_d good normal f none
      not_pipe join_got.token_is join_got.at in
      let part : AnAndOrPart = record { operator = k; join = join_got.join; pipeline = pipeline_got.value } in
      let joined_it : Gives (g S) (a_join n.broken) (state h (q + 2)) (join_got.join, join_got.next)
      (state join_got.later join_got.q) = rw unbroken join_got.reads in
      let low_j = gives_on (a_join false) _ _ _ join_got.reads in
      let low_x = gives_on (a_pipeline (level room) join_got.next) _ _ _ pipeline_got.reads in
      record {
        part = part;
        «end» = pipeline_got.«end»;
        later = pipeline_got.later;
        at = pipeline_got.at;
        reads = rw operator_is (told_here
            (by (and_or_text k)) moved ⟫ joined_it ⟫ pipeline_got.reads ⟫ pushed_here acc part ⟫ given_here);
        on = leads S h pipeline_got.later q (past_blanks T pipeline_got.«end») (omega (arith, low_j, low_x))
            (operator_here h k q (join_rest y m j ++ X) at);
        operator_is = refl;
        join_is = join_got.shape;
        pipeline_is = pipeline_got.is;
        texts = λ ts. pipeline_got.texts ts ∙ join_got.texts (pipeline_bodies x ts);
      }

  -- what is read of the pipelines after others
  record PartsRead (h : Held) (acc : Row AnAndOrPart) (n : Next) (p : ℕ) (xs : Shape AndOrPartsOf)
      (rest : Marks) : Type 0 where
    parts : Row AnAndOrPart
    «end» : ℕ
    later : Held
    at : At S later «end» rest
    reads : Gives (g S) (many (and_or_turn (level room)) (and_or_so_far acc n)) (state h p)
        (and_or_so_far (acc ++ parts) (edition_next S Command «end»)) (state later (past_blanks T «end»))
    shape : shape_of_and_or_parts B (and_or_parts_of parts) ≡ open_and_or_parts [] xs
    texts : AddsBodies S h later (and_or_parts_bodies xs)

  -- one pipeline before others
  parts_more : (h k later : Held) (acc : Row AnAndOrPart) (n : Next) (p : ℕ) (q : AnAndOrPart) (next : Next)
      (r : ℕ) (qs : Row AnAndOrPart) (z : Next) (e : ℕ)
      → Gives (g S) (and_or_turn (level room) (and_or_so_far acc n)) (state h p)
      (again (and_or_so_far (acc ++ q ∷ []) next))
      (state k r) → leads_on (g S) (state h p) (state k r) ≡ true
      → Gives (g S) (many (and_or_turn (level room)) (and_or_so_far (acc ++ q ∷ []) next)) (state k r)
      (and_or_so_far ((acc ++ q ∷ []) ++ qs) z) (state later e)
      → Gives (g S) (many (and_or_turn (level room)) (and_or_so_far acc n)) (state h p)
      (and_or_so_far (acc ++ (q ∷ qs)) z)
      (state later e)
  parts_more h k later acc n p q next r qs z e one on rest =
      subst (λ all. Gives (g S) (many (and_or_turn (level room)) (and_or_so_far acc n)) (state h p)
      (and_or_so_far all z)
      (state later e)) (append_assoc acc (q ∷ []) qs) (one_turn (and_or_turn (level room)) one on rest)

  -- the shape of further pipelines by that of the first and those of the others
  parts_shape : (q : AnAndOrPart) (qs : Row AnAndOrPart) (k : AndOrOperator) (j : AJoinOf Text)
      (x : Shape APipelineOf) (xs : Shape AndOrPartsOf) → q.operator ≡ k → shape_of_join B q.join ≡ j
      → shape_of_pipeline B q.pipeline ≡ open_pipeline [] x →
      shape_of_and_or_parts B (and_or_parts_of qs) ≡ open_and_or_parts [] xs
      → shape_of_and_or_parts B (and_or_parts_of (q ∷ qs)) ≡ open_and_or_parts [] (more_and_or k j x xs)
  unfolding open_and_or_parts
  parts_shape q qs k j x xs e f i l = rw (e, f, i, l) refl

  -- where an operator begins after a space
  operator_gap : (h : Held) (k : AndOrOperator) (e : ℕ) (ms : Marks) →
      At S h e (text (codes " ") ∷ text (and_or_text k) ∷ ms) → Gap T e (e + 1) false
  operator_gap h And e ms at = space_then S h e ampersand (ampersand ∷ []) ms refl refl at
  operator_gap h Or e ms at = space_then S h e vertical_line (vertical_line ∷ []) ms refl refl at

  -- all further pipelines are read
  parts_read : (h : Held) (m : Text) (b : Bool) (xs : Shape AndOrPartsOf) (acc : Row AnAndOrPart) (e : ℕ)
      (rest : Marks) (t : Token) → all_blank m ≡ true → GoodParts edition room xs → are_normal_and_ors xs ≡ true
      → Follower S rest t → begins_simple t ≡ false → is_pipe t ≡ false → and_or_operator_of t ≡ None →
      At S h e (print_and_or_parts y m b xs ++ rest) →
      PartsRead h acc (edition_next S Command e) (past_blanks T e) xs rest
  unfolding open_and_or_parts and_or_parts_bodies
  parts_read h m b no_and_or acc e rest t blank good normal f none not_pipe no_operator at = record {
    parts = [];
    «end» = e;
    later = h;
    at = at;
    reads = rw (append-nil acc)
        (last_turn (and_or_turn (level room))
        (no_part h acc (edition_next S Command e) (past_blanks T e)
        (ap (λ (n : Next). and_or_operator_of n.token) (f.seen_as h e at Command) ∙ no_operator)));
    shape = refl;
    texts = λ ts. refl;
  }
  parts_read h m b (more_and_or k j x xs) acc e rest t blank good normal f none not_pipe no_operator at =
      let d = operand_margin y m (b || breaks_line j) in
      let ms = print_and_or_parts y m (b || breaks_line j) xs ++ rest in
      let X = print_pipeline y d x ++ ms in
      let there = at ∙ ap (lay h) (part_marks m b k j x xs rest) in
      let n_is = (operator_follower S k (join_rest y m j ++ X)).seen_as h e there Command in
      let gap = operator_gap h k e (join_rest y m j ++ X) there in
      let parts = and_parts _ _ normal in
      let first_parts = and_parts _ _ parts.0 in
      let q = past_blanks T e in
      let at_q = subst (λ r. At S h r (text (and_or_text k) ∷ (join_rest y m j ++ X))) (sym gap.blanks)
      (at_text S h e (codes " ") (text (and_or_text k) ∷ (join_rest y m j ++ X)) there) in
      let follow = parts_follow m (b || breaks_line j) xs rest t f none not_pipe in
      let one = one_part h m d k j x acc (edition_next S Command e) q ms follow.token blank
      (operand_blank y m (b || breaks_line j) blank) first_parts.0 good.0 good.1 first_parts.1 follow.follower
      follow.no_item follow.not_pipe
      (ap (λ (n : Next). and_or_operator_of n.token) n_is ∙ (operator_no_item k).2)
      (ap (λ (n : Next). n.broken) n_is) at_q in
      let others = parts_read one.later m (b || breaks_line j) xs
      (acc ++ one.part ∷ []) one.«end» rest t blank good.2 parts.1 f none not_pipe no_operator one.at in
      record {
        parts = one.part ∷ others.parts;
        «end» = others.«end»;
        later = others.later;
        at = others.at;
        reads = parts_more h one.later others.later acc (edition_next S Command e) q one.part
            (edition_next S Command one.«end»)
            (past_blanks T one.«end») others.parts (edition_next S Command others.«end»)
            (past_blanks T others.«end») one.reads one.on others.reads;
        shape = parts_shape one.part others.parts k j x xs one.operator_is one.join_is one.pipeline_is
            others.shape;
        texts = λ ts. others.texts ts ∙ one.texts (and_or_parts_bodies xs ts);
      }

  -- what is printed of an and-or list, by its parts
  and_or_marks : (m : Text) (x : Shape APipelineOf) (xs : Shape AndOrPartsOf) (rest : Marks) →
      print_and_or y m (and_or x xs) ++ rest ≡ print_pipeline y m x ++ (print_and_or_parts y m false xs ++ rest)
  and_or_marks m x xs rest = append_assoc (print_pipeline y m x) (print_and_or_parts y m false xs) rest

  -- an and-or list begins where it is printed
  pub and_or_begins : (h : Held) (m : Text) (a : Shape AnAndOrOf) (p : ℕ) (rest : Marks) (t : Token) →
      GoodAndOr edition room a → Follower S rest t → begins_simple t ≡ false → is_pipe t ≡ false
      → At S h p (print_and_or y m a ++ rest) → PipelineBegins S p
  and_or_begins h m (and_or x xs) p rest t good f none not_pipe at =
      let follow = parts_follow m false xs rest t f none not_pipe in
      pipeline_begins h m x p (print_and_or_parts y m false xs ++ rest) follow.token good.0 follow.follower
      follow.no_item (at ∙ ap (lay h) (and_or_marks m x xs rest))

  -- the shape of an and-or list by those of its parts
  and_or_shape : (p : APipeline) (ps : Row AnAndOrPart) (x : Shape APipelineOf) (xs : Shape AndOrPartsOf) →
      shape_of_pipeline B p ≡ open_pipeline [] x →
      shape_of_and_or_parts B (and_or_parts_of ps) ≡ open_and_or_parts [] xs
      → shape_of_and_or B (and_or p (and_or_parts_of ps)) ≡ open_and_or [] (and_or x xs)
  unfolding open_and_or
  and_or_shape p ps x xs e f = rw (e, f) refl

  -- an and-or list is read where it is printed
  pub and_or_read : (h : Held) (m : Text) (a : Shape AnAndOrOf) (n : Next) (p : ℕ) (rest : Marks) (t : Token) →
      all_blank m ≡ true → GoodAndOr edition room a → is_normal_and_or a ≡ true
      → Follower S rest t → begins_simple t ≡ false → is_pipe t ≡ false → and_or_operator_of t ≡ None →
      n.token ≡ edition_token S Command p → At S h p (print_and_or y m a ++ rest)
      → RowRead S h (an_and_or (level room) n) p rest (and_or_bodies a) (λ v. shape_of_and_or B v ≡ open_and_or [] a)
  unfolding an_and_or and_or_bodies
  and_or_read h m (and_or x xs) n p rest t blank good normal f none not_pipe no_operator token_is at =
      let parts = and_parts _ _ normal in
      let follow = parts_follow m false xs rest t f none not_pipe in
      let pipeline_got = pipeline_read h m x n p
      (print_and_or_parts y m false xs ++ rest) follow.token blank good.0 parts.0 follow.follower
      follow.no_item follow.not_pipe token_is (at ∙ ap (lay h) (and_or_marks m x xs rest)) in
      let parts_got = parts_read pipeline_got.later m false xs [] pipeline_got.«end» rest t blank good.1 parts.1
      f none not_pipe no_operator pipeline_got.at in
      record {
        value = and_or pipeline_got.value (and_or_parts_of parts_got.parts);
        «end» = parts_got.«end»;
        later = parts_got.later;
        at = parts_got.at;
        texts = λ ts. parts_got.texts ts ∙ pipeline_got.texts (and_or_parts_bodies xs ts);
        reads = pipeline_got.reads ⟫ parts_got.reads ⟫ given_here;
        is = and_or_shape pipeline_got.value parts_got.parts x xs pipeline_got.is parts_got.shape;
      }
