-- What a shape has so that its printed text is read back, beside its normal form: its words are words
-- wherever they stand, its comments comments, and no more constructs are open than may be. What was read has
-- it (proofs/ReadableCompounds); what has it is read back (proofs/ReadBack).
use Rattle.std.specs.Prelude.{◌≡◌, ℕ, zero, suc, Bool, true, false, ◌&&◌, [], ◌∷◌, List as Row, Option, None, Some}
use Rattle.shgrammar.specs.declared.edition.Edition.{Edition}
use Rattle.shgrammar.specs.declared.token.Position.{Position}
use Rattle.shgrammar.specs.declared.token.Position.TheVariants.{Command, Prefix, Suffix}
use Rattle.shgrammar.specs.declared.token.Token.{Token}
use Rattle.shgrammar.specs.declared.token.Token.TheVariants as tokens
use Rattle.shgrammar.specs.Classes.{is_digit}
use Rattle.shgrammar.specs.Tokens.{is_later}
use Rattle.shgrammar.specs.Commands.{begins_word, after_redirect, after_word, is_strip, takes_here}
use Rattle.shgrammar.specs.HereDocuments.{ADelimiter, delimiter_in}
use Rattle.shgrammar.proofs.BodiesAnywhere.{DocumentAnywhere}
use Rattle.shgrammar.specs.Compounds.{begins_pattern}
use Rattle.shgrammar.proofs.ItemsAnywhere.{ItemAnywhere, NameAnywhere, is_a_word}
use Rattle.shgrammar.proofs.NamesBefore.{NameBefore}
use Rattle.shgrammar.proofs.CommentsAnywhere.{CommentAnywhere}
use Rattle.shast.specs.declared.tree.RedirectOperator.{RedirectOperator}
use Rattle.shast.specs.Shape.{Text, Shape}
use Rattle.shast.specs.Tree.{AHereOf, ForWordsOf, no_in, in_words, AWordOf, EntriesOf, no_entry, more_entries, AnEntryOf, entry, AContentOf, command, remark, AnAndOrOf, and_or, AndOrPartsOf, no_and_or, more_and_or, APipelineOf, pipeline, PipelinePartsOf, no_pipe, more_pipes, ACommandOf, simple, compound, function, ACompoundOf, formed, AFormOf, brace, subshell, if_then, while_do, until_do, for_in, case_in, ABranchOf, branch, BranchesOf, no_branch, more_branches, OtherwiseOf, no_else, otherwise, ItemsOf, no_item, more_items, AnItemOf, item, AnItemContentOf, assign, argument, redirect, word, SubstsOf, CaseItemsOf, no_case, more_cases, ACaseItemOf, case_item, PatternsOf, no_pattern, more_patterns}

-- ---- comments

-- comments, of which each is one before any newline
abbrev pub GoodComments : Row Text → Type 0
GoodComments [] = Unit {0}
GoodComments (c ∷ cs) = CommentAnywhere c × GoodComments cs

-- the comment of an entry, or none
abbrev pub GoodOwnComment : Option Text → Type 0
GoodOwnComment None = Unit {0}
GoodOwnComment (Some c) = CommentAnywhere c

-- ---- words as items

-- what a word is, by the position after it
abbrev pub as_shape : Position → Shape AWordOf → Shape AnItemContentOf
as_shape Prefix w = assign w
as_shape _ w = argument w

-- the item that a word is there
abbrev pub an_item_of : Bool → Position → Shape AWordOf → Shape AnItemOf
an_item_of broken position w = item broken (as_shape position w)

-- ---- redirections and their documents

-- the number of a redirection: digits
abbrev pub all_digits : Text → Bool
all_digits [] = true
all_digits (b ∷ bs) = is_digit b && all_digits bs

-- a number has a digit, or there is none
abbrev pub GoodNumber : Option Text → Type 0
GoodNumber None = Unit {0}
GoodNumber (Some []) = ⊥
GoodNumber (Some (b ∷ bs)) = all_digits (b ∷ bs) ≡ true

-- a here-document of an operator and a word with these bytes: its body ends where the
-- delimiter's line begins, wherever they stand
pub record GoodDocument (edition : Edition) (o : RedirectOperator) (t : Text) (h : AHereOf Text) : Type 0 where
  pub takes : takes_here o ≡ true
  pub d : ADelimiter
  pub delimits : delimiter_in edition t ≡ Some d
  pub literal : h.literal ≡ d.literal
  pub strip : h.strip ≡ is_strip o
  pub reads : DocumentAnywhere (is_strip o) d h.body

-- the document of an operator that takes one, or none
abbrev pub GoodHere : Edition → RedirectOperator → Text → Option (AHereOf Text) → Type 0
GoodHere edition o t None = takes_here o ≡ false
GoodHere edition o t (Some h) = GoodDocument edition o t h

-- a redirection, by its parts
pub record GoodRedirect (edition : Edition) (room : ℕ) (number : Option Text) (o : RedirectOperator) (t : Text)
    (ss : Shape SubstsOf) (h : Option (AHereOf Text)) : Type 0 where
  pub digits : GoodNumber number
  pub document : GoodHere edition o t h
  pub reads : ItemAnywhere edition room Suffix tokens.Word t ss

-- a redirection as an item
abbrev pub a_redirect_of : Bool → Option Text → RedirectOperator → Text → Shape SubstsOf → Option (AHereOf Text) →
    Shape AnItemOf
a_redirect_of broken number o t ss h = item broken (redirect number o tt (word t ss) h)

-- ---- items, from one position to another

-- what items are: those of a simple command, the words of a for, the redirections after a compound command
pub data Kind : Type 0 where
  of_command : Kind
  of_for : Kind
  of_compound : Kind

-- an item from one position to another, where so many constructs may be open
pub data GoodItem (edition : Edition) (room : ℕ) : Kind → Position → Shape AnItemOf → Position → Type 0 where
  -- a word or an assignment of a simple command, told by its token
  of_word : {position next : Position} {token : Token} {broken : Bool} {t : Text} {ss : Shape SubstsOf} →
      after_word token ≡ Some next → ItemAnywhere edition room position token t ss
      → GoodItem edition room of_command position (an_item_of broken next (word t ss)) next
  -- a word of a `for`
  of_argument : {broken : Bool} {t : Text} {ss : Shape SubstsOf} → ItemAnywhere edition room Suffix tokens.Word t ss →
      GoodItem edition room of_for Suffix (an_item_of broken Suffix (word t ss)) Suffix
  -- a redirection of a simple command
  of_redirect : {position : Position} {broken : Bool} {number : Option Text} {o : RedirectOperator} {t : Text}
      {ss : Shape SubstsOf} {h : Option (AHereOf Text)} → GoodRedirect edition room number o t ss h
      → GoodItem edition room of_command position (a_redirect_of broken number o t ss h) (after_redirect position)
  -- a redirection after a compound command, where a command may begin
  of_redirect_after : {broken : Bool} {number : Option Text} {o : RedirectOperator} {t : Text} {ss : Shape SubstsOf}
      {h : Option (AHereOf Text)} → GoodRedirect edition room number o t ss h
      → GoodItem edition room of_compound Command (a_redirect_of broken number o t ss h) Command

-- items of one kind, from one position to another
pub data GoodItems (edition : Edition) (room : ℕ) (kind : Kind) : Position → Shape ItemsOf → Position → Type 0 where
  -- where no item stands the position stays
  none_more : {position : Position} → GoodItems edition room kind position no_item position
  -- an item stands before the others
  one_more : {position next last : Position} {i : Shape AnItemOf} {is : Shape ItemsOf} →
      GoodItem edition room kind position i next → GoodItems edition room kind next is last →
      GoodItems edition room kind position (more_items i is) last

-- there is an item
abbrev pub SomeItem : Shape ItemsOf → Type 0
SomeItem no_item = ⊥
SomeItem (more_items i is) = Unit {0}

-- ---- simple commands, words of a `for` and redirections of a compound command

-- the items of a simple command, of which there is one at least
pub record GoodSimple (edition : Edition) (room : ℕ) (is : Shape ItemsOf) : Type 0 where
  pub last : Position
  pub items : GoodItems edition room of_command Command is last
  pub some : SomeItem is

-- the words of a `for`, all of them arguments
pub record GoodWords (edition : Edition) (room : ℕ) (is : Shape ItemsOf) : Type 0 where
  pub last : Position
  pub items : GoodItems edition room of_for Suffix is last

-- the redirections after a compound command
pub record GoodRedirects (edition : Edition) (room : ℕ) (is : Shape ItemsOf) : Type 0 where
  pub last : Position
  pub items : GoodItems edition room of_compound Command is last

-- the words of a `for`, or no `in`
abbrev pub GoodForWords : Edition → ℕ → Shape ForWordsOf → Type 0
GoodForWords edition room no_in = Unit {0}
GoodForWords edition room (in_words items) = GoodWords edition room items

-- ---- words: patterns, names, the word of a `case`

-- a word that begins with such a token in this position, wherever it stands
pub record GoodWord (edition : Edition) (room : ℕ) (position : Position) (begins : Token → Bool)
    (w : Shape AWordOf) : Type 0 where
  pub t : Text
  pub ss : Shape SubstsOf
  pub is : w ≡ word t ss
  pub token : Token
  pub begin : begins token ≡ true
  pub word_is : is_a_word token ≡ true
  pub reads : ItemAnywhere edition room position token t ss

-- the patterns after the first one
abbrev pub GoodMorePatterns : Edition → ℕ → Shape PatternsOf → Type 0
GoodMorePatterns edition room no_pattern = Unit {0}
GoodMorePatterns edition room (more_patterns w ws) = GoodWord edition room Suffix begins_word w
    × GoodMorePatterns edition room ws

-- all patterns, of which the first stands in another position
abbrev pub GoodPatterns : Edition → ℕ → Shape PatternsOf → Type 0
GoodPatterns edition room no_pattern = ⊥
GoodPatterns edition room (more_patterns w ws) = GoodWord edition room Command begins_pattern w
    × GoodMorePatterns edition room ws

-- the name of a `for`: a word that is a NAME, wherever it stands
pub record GoodName (edition : Edition) (room : ℕ) (name : Shape AWordOf) : Type 0 where
  pub t : Text
  pub ss : Shape SubstsOf
  pub is : name ≡ word t ss
  pub token : Token
  pub begins : begins_word token ≡ true
  pub reads : ItemAnywhere edition room Suffix token t ss
  pub names : NameAnywhere t

-- ---- lists, and all that holds them

-- lists and all that holds them, where so many constructs may be opened
abbrev mutual
  -- entries are good where each one is
  pub GoodEntries : Edition → ℕ → Shape EntriesOf → Type 0
  GoodEntries edition room no_entry = Unit {0}
  GoodEntries edition room (more_entries e es) = GoodEntry edition room e × GoodEntries edition room es

  -- an entry is good where its command or comment is, and the comment after it
  pub GoodEntry : Edition → ℕ → Shape AnEntryOf → Type 0
  GoodEntry edition room (entry what background blank comment) = GoodContent edition room what × GoodOwnComment comment

  -- the content of an entry is a command that is good, or a comment on a line of its own
  pub GoodContent : Edition → ℕ → Shape AContentOf → Type 0
  GoodContent edition room (command a) = GoodAndOr edition room a
  GoodContent edition room (remark c) = CommentAnywhere c

  -- an and-or list is good where each of its pipelines is, and so are the comments of their joins
  pub GoodAndOr : Edition → ℕ → Shape AnAndOrOf → Type 0
  GoodAndOr edition room (and_or first rest) = GoodPipeline edition room first × GoodParts edition room rest

  -- so it is with the pipelines after the first one
  pub GoodParts : Edition → ℕ → Shape AndOrPartsOf → Type 0
  GoodParts edition room no_and_or = Unit {0}
  GoodParts edition room (more_and_or operator j p ps) = GoodComments j.comments × GoodPipeline edition room p
      × GoodParts edition room ps

  -- a pipeline is good where each of its commands is, and so are the comments of their joins
  pub GoodPipeline : Edition → ℕ → Shape APipelineOf → Type 0
  GoodPipeline edition room (pipeline bang first rest) = GoodCommand edition room first × GoodPipes edition room rest

  -- so it is with the commands after the first one
  pub GoodPipes : Edition → ℕ → Shape PipelinePartsOf → Type 0
  GoodPipes edition room no_pipe = Unit {0}
  GoodPipes edition room (more_pipes j c cs) = GoodComments j.comments × GoodCommand edition room c
      × GoodPipes edition room cs

  -- a command is good where it is a good simple or compound one, or a function, which is open while its body
  -- is read
  pub GoodCommand : Edition → ℕ → Shape ACommandOf → Type 0
  GoodCommand edition room (simple items) = GoodSimple edition room items
  GoodCommand edition room (compound c) = GoodCompound edition room c
  GoodCommand edition zero (function name comments body) = ⊥
  GoodCommand edition (suc room) (function name comments body) = NameBefore (suc room) name × GoodComments comments
      × GoodCompound edition room body

  -- a compound command is open while what it holds is read, and not while its redirections are
  pub GoodCompound : Edition → ℕ → Shape ACompoundOf → Type 0
  GoodCompound edition zero (formed form mark redirects) = ⊥
  GoodCompound edition (suc room) (formed form mark redirects) = GoodForm edition room form
      × GoodRedirects edition (suc room) redirects

  -- a form is good where all that it holds is
  pub GoodForm : Edition → ℕ → Shape AFormOf → Type 0
  GoodForm edition room (brace es) = GoodEntries edition room es
  GoodForm edition room (subshell es) = GoodEntries edition room es
  GoodForm edition room (if_then first rest other) = GoodBranch edition room first × GoodBranches edition room rest
      × GoodElse edition room other
  GoodForm edition room (while_do b) = GoodBranch edition room b
  GoodForm edition room (until_do b) = GoodBranch edition room b
  GoodForm edition room (for_in name words body) = GoodName edition room name × GoodForWords edition room words
      × GoodEntries edition room body
  GoodForm edition room (case_in w items tail) = GoodWord edition room Suffix begins_word w
      × GoodCases edition room items × GoodComments tail

  -- the items of a `case` are good where each one is
  pub GoodCases : Edition → ℕ → Shape CaseItemsOf → Type 0
  GoodCases edition room no_case = Unit {0}
  GoodCases edition room (more_cases c cs) = GoodCase edition room c × GoodCases edition room cs

  -- an item is good where its comments, patterns and entries are, and it falls through in a later edition
  -- alone
  pub GoodCase : Edition → ℕ → Shape ACaseItemOf → Type 0
  GoodCase edition room (case_item comments patterns body mark) = GoodComments comments
      × GoodPatterns edition room patterns × GoodEntries edition room body
      × (mark.falls ≡ true → is_later edition ≡ true)

  -- a branch is good where its condition and its body are
  pub GoodBranch : Edition → ℕ → Shape ABranchOf → Type 0
  GoodBranch edition room (branch condition body) = GoodEntries edition room condition × GoodEntries edition room body

  -- the further branches of an `if` are good where each one is
  pub GoodBranches : Edition → ℕ → Shape BranchesOf → Type 0
  GoodBranches edition room no_branch = Unit {0}
  GoodBranches edition room (more_branches b bs) = GoodBranch edition room b × GoodBranches edition room bs

  -- an `else` is good where its list is; where none stands nothing is asked
  pub GoodElse : Edition → ℕ → Shape OtherwiseOf → Type 0
  GoodElse edition room no_else = Unit {0}
  GoodElse edition room (otherwise es) = GoodEntries edition room es

-- ---- functions

-- the body of a function, where so many constructs may be open before it
abbrev pub GoodBody : Edition → ℕ → Shape ACompoundOf → Type 0
GoodBody edition zero body = ⊥
GoodBody edition (suc room) body = GoodCompound edition room body

-- a function, by its parts
pub record GoodFunction (edition : Edition) (room : ℕ) (name : Text) (comments : Row Text)
    (body : Shape ACompoundOf) : Type 0 where
  pub before : NameBefore room name
  pub own : GoodComments comments
  pub inside : GoodBody edition room body

-- a function that is good has good parts
pub parts_of_function : (edition : Edition) (room : ℕ) (name : Text) (comments : Row Text) (body : Shape ACompoundOf) →
    GoodCommand edition room (function name comments body) → GoodFunction edition room name comments body
parts_of_function edition zero name comments body good = absurd good
parts_of_function edition (suc room) name comments body good = record { before = good.0; own = good.1; inside = good.2 }
