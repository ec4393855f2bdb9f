-- The tokens passed where a command is read are those that its shape spells: items and redirections, simple
-- commands, pipelines, and-or lists and entries, where what may be opened in them does so.
use Rattle.std.proofs.Common.{◌≡◌, ◌∙◌, refl, sym, ap, ℕ, Bool, false, List, List as Row, [], ◌∷◌, ◌++◌, drop, codes, Option, Some, None, option_map}
use Rattle.std.proofs.lemmas.List.{append-nil, append_assoc}
use Rattle.shgrammar.specs.declared.token.Next.{Next}
use Rattle.shgrammar.specs.declared.token.Opener.{Opener}
use Rattle.shgrammar.specs.declared.token.Position.{Position}
use Rattle.shgrammar.specs.declared.token.Position.TheVariants.{Command, Prefix, Suffix}
use Rattle.shgrammar.specs.declared.token.Separator.{Separator}
use Rattle.shgrammar.specs.declared.token.Separator.TheVariants.{Semicolon, Ampersand}
use Rattle.shast.specs.declared.tree.AndOrOperator.{AndOrOperator}
use Rattle.shast.specs.declared.tree.RedirectOperator.{RedirectOperator}
use Rattle.shast.specs.declared.tree.Span.{Span}
use Rattle.shast.specs.Tree.{APipelinePart, AnAndOrPart, pipeline_parts_of, and_or_parts_of, AnItem, AWord, item, items_of, ACommand, AForm, ItemsOf, redirect, with_redirects, formed, no_item, compound, ACompound, word, argument}
use Rattle.shast.specs.Shape.{bare, bare_at, text_at, shape_of_entry, shape_of_and_or, shape_of_and_or_parts, shape_of_pipeline, shape_of_bang, shape_of_pipes, shape_of_command, shape_of_form, shape_of_items, shape_of_item, shape_of_word}
use Rattle.shast.specs.Spelling.{Tokens, and_or_text, redirect_text, spell_number, spell_background, spell_bang, spell_word, spell_item, spell_items, spell_entry, spell_and_or, spell_and_or_parts, spell_pipeline, spell_pipes, spell_command, spell_form}
use Rattle.shgrammar.specs.Sights.{Given, State}
use Rattle.shgrammar.specs.Form.{Spelled, tell}
use Rattle.shgrammar.specs.Words.{Inner}
use Rattle.shgrammar.specs.Commands.{is_pipe, is_bang, begins_simple, begins_redirect, opener_of, compound_by, and_or_operator_of, ItemsSoFar, items_so_far, after_word, is_number_token, redirect_operator_of, takes_here, is_strip, document_by, a_document, a_number, an_operator, operator_by, a_target, one_redirect, after_redirect, redirect_turn, with_redirect_list, as_item, breaks, an_item, item_by, item_turn, a_simple, a_command, a_bang, PipesSoFar, pipes_so_far, one_command, pipe_turn, a_pipeline, AndOrSoFar, and_or_so_far, one_pipeline, joined_by, and_or_turn, an_and_or, separator_of, told_separator, separator_by, a_separator, is_background, an_entry, a_word_command, is_word, is_paren}
use Rattle.shgrammar.specs.HereDocuments.{ADelimiter}
use Rattle.shast.specs.Nodes.{word_span}
use Rattle.shgrammar.proofs.Spelling.{Passing, pass_give, pass_stop, pass_so, pass_then, Silent, pass_on, pass_last, pass_see, pass_pushed, pass_token, pass_with_bytes, pass_change, OneText, pass_text, pass_pick, Grows, grows_none, pass_many, silent_next, silent_comment, silent_join, pass_unexpected, raw_at, pass_word}

-- ---- rows that grow at their end

-- where a row is two rows, the one after the other, so it is with more in front of it and of the first
pub append_between : (a x b c : Tokens) → x ≡ b ++ c → a ++ x ≡ (a ++ b) ++ c
append_between a x b c is = ap (λ z. a ++ z) is ∙ sym (append_assoc a b c)

module _ (B : List ℕ) where
  -- with one more at its end a row spells what it spelled, and then that
  items_last : (is : Row AnItem) (i : AnItem) →
      spell_items (shape_of_items B (items_of (is ++ i ∷ []))) ≡ spell_items (shape_of_items B (items_of is))
      ++ spell_item (shape_of_item B i)
  items_last [] i = append-nil _
  items_last (j ∷ is) i = append_between (spell_item (shape_of_item B j)) _
      (spell_items (shape_of_items B (items_of is)))
      (spell_item (shape_of_item B i)) (items_last is i)

  -- with one more at its end a row of commands, or of pipelines, spells what it spelled, and then that
  pipes_last : (ps : Row APipelinePart) (p : APipelinePart) →
      spell_pipes (shape_of_pipes B (pipeline_parts_of (ps ++ p ∷ [])))
      ≡ spell_pipes (shape_of_pipes B (pipeline_parts_of ps))
      ++ (codes "|" ∷ spell_command (shape_of_command B p.command))
  pipes_last [] p = ap (λ z. codes "|" ∷ z) (append-nil _)
  pipes_last (q ∷ ps) p = append_between (codes "|" ∷ spell_command (shape_of_command B q.command)) _
      (spell_pipes (shape_of_pipes B (pipeline_parts_of ps))) (codes "|" ∷ spell_command (shape_of_command B p.command))
      (pipes_last ps p)

  joined_last : (ps : Row AnAndOrPart) (p : AnAndOrPart) →
      spell_and_or_parts (shape_of_and_or_parts B (and_or_parts_of (ps ++ p ∷ [])))
      ≡ spell_and_or_parts (shape_of_and_or_parts B (and_or_parts_of ps))
      ++ (and_or_text p.operator ∷ spell_pipeline (shape_of_pipeline B p.pipeline))
  joined_last [] p = ap (λ z. and_or_text p.operator ∷ z) (append-nil _)
  joined_last (q ∷ ps) p =
      append_between (and_or_text q.operator ∷ spell_pipeline (shape_of_pipeline B q.pipeline)) _
      (spell_and_or_parts (shape_of_and_or_parts B (and_or_parts_of ps)))
      (and_or_text p.operator ∷ spell_pipeline (shape_of_pipeline B p.pipeline)) (joined_last ps p)

-- ---- what a row passes

-- the tokens passed are those of what was read
abbrev pub Spells : {X : Type 0} → (X → Tokens) → X → Tokens → Type 0
Spells of x k = k ≡ of x

module _ (B : List ℕ) where
  -- what the items so far spell
  abbrev pub spelled_items : ItemsSoFar → Tokens
  spelled_items i = spell_items (shape_of_items B (items_of i.items))

  -- this is a compound command, and spells these tokens
  abbrev pub IsCompound : ACommand × Next → Tokens → Type 0
  IsCompound c k = (body : ACompound) × (c.0 ≡ compound body) × (k ≡ spell_command (shape_of_command B c.0))

  -- this is a compound command without redirections, and spells these tokens
  abbrev pub IsBare : ACommand × Next → Tokens → Type 0
  IsBare c k = (form : AForm) × (mark : Span) × (c.0 ≡ compound (formed form mark no_item))
      × (k ≡ spell_command (shape_of_command B c.0))

-- what may be opened passes the tokens that its shape spells
module _ (B : List ℕ) (g : Given) (stands : g.text ≡ drop g.offset B) where
  pub record InnerSpells (inner : Inner) : Type 0 where
    pub compound : (o : Opener) (s : State) → Passing g (inner.compound o) (IsBare B) s
    pub function : (name : Span) (s : State) →
        Passing g (inner.function name) (λ c k. text_at B name ∷ k ≡ spell_command (shape_of_command B c.0)) s

module _ {B : List ℕ} {g : Given} {stands : g.text ≡ drop g.offset B} {inner : Inner}
    (fine : InnerSpells B g stands inner) where
  -- ---- simple commands

  -- Each row: the tokens passed are those that the shape of what it gives spells; a turn passes what it adds.

  -- an item that is a word spells that word
  item_word : (position : Position) (broken : Bool) (w : AWord) →
      spell_item (shape_of_item B (item broken (as_item position w))) ≡ spell_word (shape_of_word B w)
  item_word Command broken w = refl
  item_word Prefix broken w = refl
  item_word Suffix broken w = refl

  -- one more item that is a word passes what it adds
  pub pass_item : (i : ItemsSoFar) (position : Position) (s : State) →
      Passing g (an_item inner i position) (Grows g (spelled_items B) i) s
  unfolding an_item
  pass_item i position s =
      pass_then g (pass_word B g stands inner s)
      (λ w t k so. pass_pushed g (λ u. pass_on g (silent_next g position u) (λ n v. pass_give g
      (items_last B i.items (item (breaks i) (as_item position w))
      ∙ ap (λ z. spelled_items B i ++ z) (item_word position (breaks i) w ∙ sym so ∙ sym (append-nil k))))))

  -- the number of a redirection passes what it spells, where it has one, and so do its
  -- operator and its target
  pass_number : (n : Next) (s : State) →
      Passing g (a_number n) (λ x k. k ≡ spell_number (option_map (bare_at B) x.0)) s
  unfolding a_number
  pass_number n s =
      pass_pick g (is_number_token n.token)
      (pass_then g (pass_token g {P = λ x k. k ≡ bare_at B x.1 ∷ []}
      (λ x u. ap (λ z. bare z ∷ []) (raw_at B g stands s.at u.at)))
      (λ x t k so. pass_on g (silent_next g Suffix t) (λ m u. pass_give g (append-nil k ∙ so))))
      (pass_give g refl)

  pass_operator : (o : RedirectOperator) (s : State) → Passing g (an_operator o) (OneText g (redirect_text o)) s
  unfolding an_operator
  pass_operator o s = pass_text g

  pass_operator_by : (p : ℕ) (o : Option RedirectOperator) (s : State) →
      Passing g (operator_by p o) (λ x k. k ≡ redirect_text x.0 ∷ []) s
  pass_operator_by p (Some o) s = pass_last g (pass_operator o s) (λ x k so. so)
  pass_operator_by p None s = pass_stop g

  pass_target : (s : State) → Passing g (a_target inner) (λ w k. k ≡ spell_word (shape_of_word B w.0)) s
  unfolding a_target
  pass_target s = pass_on g (silent_next g Suffix s)
      (λ n t. pass_pick g (is_word n.token) (pass_with_bytes g (pass_word B g stands inner t))
      (pass_unexpected g inner n t))

  -- a here-document that waits from here on tells nothing
  silent_document_by : (b p : ℕ) (strip : Bool) (d : Option ADelimiter) (s : State) →
      Passing g (document_by b p strip d) (Silent g) s
  silent_document_by b p strip (Some d) s = pass_on g (pass_change g) (λ u t. pass_give g refl)
  silent_document_by b p strip None s = pass_stop g

  silent_document : (o : RedirectOperator) (b p : ℕ) (bytes : Spelled) (s : State) →
      Passing g (a_document o b p bytes) (Silent g) s
  unfolding a_document
  silent_document o b p bytes s =
      pass_pick g (takes_here o) (pass_on g (pass_see g) (λ d t. silent_document_by b p (is_strip o) d t))
      (pass_give g refl)

  -- one more redirection passes what it adds, and so does one more item of any kind; a simple command passes
  -- what it spells more than the items that it has so far
  pass_redirect : (i : ItemsSoFar) (broken : Bool) (position : Position) (n : Next) (s : State) →
      Passing g (one_redirect inner broken position i.items n) (Grows g (spelled_items B) i) s
  unfolding one_redirect
  pass_redirect i broken position n s =
      pass_on g (pass_see g) (λ p t. pass_then g (pass_number n t)
      (λ d u k1 one. pass_then g (pass_operator_by p (redirect_operator_of d.1.token) u)
      (λ o v k2 two. pass_then g (pass_target v) (λ w x k3 three.
      pass_on g (silent_document o.0 o.1.start (word_span w.0).start w.1 x) (λ h a.
      pass_pushed g (λ y. pass_on g (silent_next g position y)
      (λ m z. pass_give g (rw (one, two, append-nil k3, three)
      (items_last B i.items (item broken (redirect d.0 o.0 o.1 w.0 h)))))))))))

  pass_item_by : (i : ItemsSoFar) (o : Option Position) (s : State) →
      Passing g (item_by inner i o) (Grows g (spelled_items B) i) s
  pass_item_by i (Some position) s = pass_item i position s
  pass_item_by i None s = pass_pick g (begins_redirect i.next.token)
      (pass_redirect i (breaks i) (after_redirect i.position) i.next s) (pass_give g (grows_none g (spelled_items B) i))

  pass_item_turn : (i : ItemsSoFar) (s : State) → Passing g (item_turn inner i) (Grows g (spelled_items B) i) s
  unfolding item_turn
  pass_item_turn i s = pass_item_by i (after_word i.next.token) s

  pass_simple : (i : ItemsSoFar) (s : State) →
      Passing g (a_simple inner i) (λ c k. spelled_items B i ++ k ≡ spell_command (shape_of_command B c.0)) s
  unfolding a_simple
  pass_simple i s = pass_last g (pass_many g (spelled_items B) (item_turn inner) pass_item_turn i s) (λ is k so. sym so)

  -- ---- pipelines

  -- one more redirection after a compound command passes what it adds
  pass_redirect_turn : (i : ItemsSoFar) (s : State) → Passing g (redirect_turn inner i) (Grows g (spelled_items B) i) s
  unfolding redirect_turn
  pass_redirect_turn i s = pass_pick g (begins_redirect i.next.token) (pass_redirect i i.next.broken Command i.next s)
      (pass_give g (grows_none g (spelled_items B) i))

  -- with redirections a compound command spells what it spelled, and then them
  with_spelled : (c : ACommand) (form : AForm) (mark : Span) (is : ItemsOf Span Span) (k l : Tokens) →
      c ≡ compound (formed form mark no_item) → k ≡ spell_command (shape_of_command B c) →
      spell_items (shape_of_items B is) ≡ l
      → (body : ACompound) × (with_redirects c is ≡ compound body)
      × (k ++ l ≡ spell_command (shape_of_command B (with_redirects c is)))
  with_spelled c form mark is k l one two three =
      let first : k ≡ spell_form (shape_of_form B form) ++ [] = rw one at two in (
        formed form mark is,
        rw one refl,
        rw (one, first, ← three) (ap (λ z. z ++ spell_items (shape_of_items B is)) (append-nil _)),
      )

  -- a compound command spells what was passed, with the redirections that are read after it
  pass_with_redirect_list : (c : ACommand × Next) (k : Tokens) (s : State) → IsBare B c k →
      Passing g (with_redirect_list inner c) (λ d l. IsCompound B d (k ++ l)) s
  unfolding with_redirect_list
  pass_with_redirect_list c k s so =
      pass_last g (pass_many g (spelled_items B) (redirect_turn inner) pass_redirect_turn
      (items_so_far [] Command c.1) s)
      (λ r l is. with_spelled c.0 so.0 so.1 (items_of r.items) k l so.2 so.3 is)

  pub pass_compound_by : (n : Next) (o : Option Opener) (s : State) → Passing g (compound_by inner n o) (IsCompound B) s
  pass_compound_by n (Some o) s = pass_then g (fine.compound o s) (λ c t k so. pass_with_redirect_list c k t so)
  pass_compound_by n None s = pass_unexpected g inner n s

  -- a word is one token
  word_is : (w : AWord) → spell_word (shape_of_word B w) ≡ text_at B (word_span w) ∷ []
  word_is (word s ss) = refl

  -- a command that begins with a word passes what it spells, and so does any command
  pass_word_command : (s : State) →
      Passing g (a_word_command inner) (Spells (λ c. spell_command (shape_of_command B c.0))) s
  unfolding a_word_command
  pass_word_command s =
      pass_on g (pass_see g) (λ good t. pass_then g (pass_word B g stands inner t)
      (λ w u k so. pass_on g (silent_next g Suffix u) (λ n v.
      pass_pick g (is_paren n.token)
      (pass_pick g good (pass_so g (fine.function (word_span w) v)
      (λ c l is. ap (λ z. z ++ l) (so ∙ word_is w) ∙ is)) (pass_stop g))
      (pass_pushed g (λ x. pass_so g (pass_simple (items_so_far (item false (argument w) ∷ []) Suffix n) x)
      (λ c l is. ap (λ z. z ++ l) (so ∙ sym (append-nil _)) ∙ is))))))

  pass_command : (n : Next) (s : State) →
      Passing g (a_command inner n) (Spells (λ c. spell_command (shape_of_command B c.0))) s
  unfolding a_command
  pass_command n s =
      pass_pick g (is_word n.token) (pass_word_command s)
      (pass_pick g (begins_simple n.token) (pass_simple (items_so_far [] Command n) s)
      (pass_so g (pass_compound_by n (opener_of n.token) s) (λ c k so. so.2)))

  -- a `!` passes what it spells, where one stands
  pass_bang : (n : Next) (s : State) → Passing g (a_bang n) (Spells (λ x. spell_bang (shape_of_bang x.0))) s
  unfolding a_bang
  pass_bang n s =
      pass_pick g (is_bang n.token)
      (pass_then g (pass_text g) (λ x t k so. pass_on g (silent_next g Command t)
      (λ m u. pass_give g (append-nil k ∙ so)))) (pass_give g refl)

  -- one more command passes what it adds to those after the first so far, and a whole pipeline what it spells
  abbrev spelled_pipes : PipesSoFar → Tokens
  spelled_pipes p = spell_pipes (shape_of_pipes B (pipeline_parts_of p.parts))

  pass_one_command : (p : PipesSoFar) (s : State) → Passing g (one_command inner p) (Grows g spelled_pipes p) s
  unfolding one_command
  pass_one_command p s =
      pass_then g (pass_text g) (λ x t k is. pass_on g (silent_join g p.next.broken t)
      (λ j u. pass_then g (pass_command j.1 u) (λ c v l so. pass_pushed g (λ w. pass_give g
      (pipes_last B p.parts (record { join = j.0; command = c.0 })
      ∙ ap (λ z. spelled_pipes p ++ z) (rw (is, so) (ap (λ z. codes "|" ∷ z) (sym (append-nil _)))))))))

  pass_pipe_turn : (p : PipesSoFar) (s : State) → Passing g (pipe_turn inner p) (Grows g spelled_pipes p) s
  unfolding pipe_turn
  pass_pipe_turn p s = pass_pick g (is_pipe p.next.token) (pass_one_command p s)
      (pass_give g (grows_none g spelled_pipes p))

  pass_pipeline : (n : Next) (s : State) →
      Passing g (a_pipeline inner n) (Spells (λ x. spell_pipeline (shape_of_pipeline B x.0))) s
  unfolding a_pipeline
  pass_pipeline n s =
      pass_then g (pass_bang n s) (λ b t k is. pass_then g (pass_command b.1 t) (λ c u l so.
      pass_last g (pass_many g spelled_pipes (pipe_turn inner) pass_pipe_turn (pipes_so_far [] c.1) u)
      (λ p m all. rw (is, so, ← all)
      (sym (append_assoc (spell_bang (shape_of_bang b.0)) (spell_command (shape_of_command B c.0))
      (spelled_pipes p))))))

  -- ---- and-or lists

  -- one more pipeline passes what it adds to those after the first so far, and a whole and-or
  -- list what it spells
  abbrev spelled_joined : AndOrSoFar → Tokens
  spelled_joined a = spell_and_or_parts (shape_of_and_or_parts B (and_or_parts_of a.parts))

  pass_one_pipeline : (a : AndOrSoFar) (o : AndOrOperator) (s : State) →
      Passing g (one_pipeline inner a o) (Grows g spelled_joined a) s
  unfolding one_pipeline
  pass_one_pipeline a o s =
      pass_then g (pass_text g) (λ x t k is. pass_on g (silent_join g a.next.broken t)
      (λ j u. pass_then g (pass_pipeline j.1 u) (λ p v l so. pass_pushed g (λ w. pass_give g
      (joined_last B a.parts (record { operator = o; join = j.0; pipeline = p.0 })
      ∙ ap (λ z. spelled_joined a ++ z) (rw (is, so) (ap (λ z. and_or_text o ∷ z) (sym (append-nil _)))))))))

  pass_and_or_turn : (a : AndOrSoFar) (s : State) → Passing g (and_or_turn inner a) (Grows g spelled_joined a) s
  unfolding and_or_turn
  pass_and_or_turn a s = by_operator (and_or_operator_of a.next.token)
    where
      by_operator : (o : Option AndOrOperator) → Passing g (joined_by inner a o) (Grows g spelled_joined a) s
      by_operator (Some o) = pass_one_pipeline a o s
      by_operator None = pass_give g (grows_none g spelled_joined a)

  pass_and_or : (n : Next) (s : State) →
      Passing g (an_and_or inner n) (Spells (λ x. spell_and_or (shape_of_and_or B x.0))) s
  unfolding an_and_or
  pass_and_or n s =
      pass_then g (pass_pipeline n s) (λ p t k is.
      pass_last g (pass_many g spelled_joined (and_or_turn inner) pass_and_or_turn (and_or_so_far [] p.1) t)
      (λ a m all. rw (is, ← all) refl))

  -- ---- entries

  -- `&` is told, and `;` is not
  told_is : (T : List ℕ) (p q : ℕ) (c : Separator) (end : ℕ) →
      tell (told_separator c) T p q ≡ spell_background (is_background (Some (c, end)))
  told_is T p q Semicolon end = refl
  told_is T p q Ampersand end = refl

  -- a separator passes what it spells, where one stands, and so does a whole entry
  pass_separator : (n : Next) (s : State) →
      Passing g (a_separator n) (Spells (λ x. spell_background (is_background x.0))) s
  unfolding a_separator
  pass_separator n s = by_separator (separator_of n.token)
    where
      by_separator : (c : Option Separator) →
          Passing g (separator_by n c) (Spells (λ x. spell_background (is_background x.0))) s
      by_separator (Some c) =
          pass_then g (pass_token g {P = λ x k. k ≡ spell_background (is_background (Some (c, x.1.«end»)))}
          (λ x t. told_is g.text s.at t.at c _))
          (λ x t k so. pass_on g (silent_next g Command t) (λ m u. pass_give g (append-nil k ∙ so)))
      by_separator None = pass_give g refl

  pub pass_entry : (blank : Bool) (n : Next) (s : State) →
      Passing g (an_entry inner blank n) (Spells (λ e. spell_entry (shape_of_entry B e.entry))) s
  unfolding an_entry
  pass_entry blank n s =
      pass_then g (pass_and_or n s)
      (λ a t k is. pass_then g (pass_separator a.1 t)
      (λ c u l so. pass_on g (silent_comment g c.1 u) (λ d v. pass_give g (rw (is, append-nil l, so) refl))))
