-- The measure by which the functions end that read lists, commands and words, and what their loops keep: 128
-- for each construct that may still be opened, and for each function a number below 128 that is above those
-- of the functions it calls with as many.
use Rattle.std.proofs.Common.{◌≡◌, ◌≤◌, ◌+◌, ◌*◌, ◌-◌, [], length, map}
use Rattle.shgrammar.specs.declared.token.Position.TheVariants.{Suffix, Command as AsCommand}
use Rattle.shline.specs.Clauses.{at_place, at_token, here_of, Rests, start_of, text_of}
use Rattle.shgrammar.specs.Commands.{and_or_turn, item_turn, and_or_so_far, pipe_turn, pipes_so_far, redirect_turn, items_so_far}
use Rattle.shgrammar.specs.Compounds.{branches_so_far, elif_turn, pattern_turn, patterns_so_far, case_turn, word_turn}
use Rattle.shgrammar.specs.Form.{many}
use Rattle.shgrammar.specs.Levels.{level}
use Rattle.shline.specs.Listed.{view_cases, view_listed}
use Rattle.shgrammar.specs.Lists.{entry_turn, list_so_far, list_turn}
use Rattle.shgrammar.specs.Words.{a_piece, contents, word_so_far}
use Rattle.shast.specs.View.{view_and_or_part, view_branch, view_item, view_pipeline_part, view_subst, view_word}
use Rattle.shline.proofs.cursor.Cursor.+commands.Given as goal

-- ---- the way down: to what is read inside, and at last to fewer that may be opened

abbrev pub decreases-construct : goal.decreases-construct
decreases-construct g l = 128 * l.room + 2

abbrev pub decreases-substitution : goal.decreases-substitution
decreases-substitution g l = 128 * l.room + 2

abbrev pub decreases-some_piece : goal.decreases-some_piece
decreases-some_piece g l = 128 * l.room + 4

abbrev pub decreases-take_piece : goal.decreases-take_piece
decreases-take_piece g l = 128 * l.room + 5

abbrev pub decreases-contents : goal.decreases-contents
decreases-contents g l = 128 * l.room + 6

abbrev pub decreases-word : goal.decreases-word
decreases-word g l = 128 * l.room + 8

abbrev pub decreases-what_is_wrong : goal.decreases-what_is_wrong
decreases-what_is_wrong g l = 128 * l.room + 10

abbrev pub decreases-item : goal.decreases-item
decreases-item g l = 128 * l.room + 10

abbrev pub decreases-pattern : goal.decreases-pattern
decreases-pattern g l = 128 * l.room + 10

abbrev pub decreases-target : goal.decreases-target
decreases-target g l = 128 * l.room + 12

abbrev pub decreases-redirect : goal.decreases-redirect
decreases-redirect g l = 128 * l.room + 14

abbrev pub decreases-redirects : goal.decreases-redirects
decreases-redirects g l = 128 * l.room + 18

abbrev pub decreases-with_redirect_list : goal.decreases-with_redirect_list
decreases-with_redirect_list g l = 128 * l.room + 20

abbrev pub decreases-item_turn : goal.decreases-item_turn
decreases-item_turn g l = 128 * l.room + 16

abbrev pub decreases-words : goal.decreases-words
decreases-words g l = 128 * l.room + 14

abbrev pub decreases-closing : goal.decreases-closing
decreases-closing g l = 128 * l.room + 12

abbrev pub decreases-items : goal.decreases-items
decreases-items g l = 128 * l.room + 18

abbrev pub decreases-for_name : goal.decreases-for_name
decreases-for_name g l = 128 * l.room + 12

abbrev pub decreases-sequential_sep : goal.decreases-sequential_sep
decreases-sequential_sep g l = 128 * l.room + 12

abbrev pub decreases-one_pattern : goal.decreases-one_pattern
decreases-one_pattern g l = 128 * l.room + 12

abbrev pub decreases-item_end : goal.decreases-item_end
decreases-item_end g l = 128 * l.room + 12

abbrev pub decreases-case_head : goal.decreases-case_head
decreases-case_head g l = 128 * l.room + 14

abbrev pub decreases-for_head : goal.decreases-for_head
decreases-for_head g l = 128 * l.room + 18

abbrev pub decreases-more_patterns : goal.decreases-more_patterns
decreases-more_patterns g l = 128 * l.room + 16

abbrev pub decreases-patterns : goal.decreases-patterns
decreases-patterns g l = 128 * l.room + 18

abbrev pub decreases-compound : goal.decreases-compound
decreases-compound g l = 128 * l.room + 20

abbrev pub decreases-compound_by : goal.decreases-compound_by
decreases-compound_by g l = 128 * l.room + 22

abbrev pub decreases-function : goal.decreases-function
decreases-function g l = 128 * l.room + 24

abbrev pub decreases-named_function : goal.decreases-named_function
decreases-named_function g l = 128 * l.room + 26

abbrev pub decreases-word_command : goal.decreases-word_command
decreases-word_command g l = 128 * l.room + 28

abbrev pub decreases-command : goal.decreases-command
decreases-command g l = 128 * l.room + 30

abbrev pub decreases-one_command : goal.decreases-one_command
decreases-one_command g l = 128 * l.room + 32

abbrev pub decreases-pipes : goal.decreases-pipes
decreases-pipes g l = 128 * l.room + 36

abbrev pub decreases-pipeline : goal.decreases-pipeline
decreases-pipeline g l = 128 * l.room + 38

abbrev pub decreases-one_pipeline : goal.decreases-one_pipeline
decreases-one_pipeline g l = 128 * l.room + 40

abbrev pub decreases-joined_pipelines : goal.decreases-joined_pipelines
decreases-joined_pipelines g l = 128 * l.room + 44

abbrev pub decreases-entry_turn : goal.decreases-entry_turn
decreases-entry_turn g l = 128 * l.room + 50

abbrev pub decreases-entries : goal.decreases-entries
decreases-entries g l = 128 * l.room + 52

abbrev pub decreases-on_line : goal.decreases-on_line
decreases-on_line g l = 128 * l.room + 54

abbrev pub decreases-list_turn : goal.decreases-list_turn
decreases-list_turn g l = 128 * l.room + 56

abbrev pub decreases-list_lines : goal.decreases-list_lines
decreases-list_lines g l = 128 * l.room + 58

abbrev pub decreases-list : goal.decreases-list
decreases-list g l = 128 * l.room + 60

abbrev pub decreases-substitution_list : goal.decreases-substitution_list
decreases-substitution_list g l = 128 * l.room + 60

abbrev pub decreases-one_substitution : goal.decreases-one_substitution
decreases-one_substitution g l = 128 * l.room + 62

abbrev pub decreases-branch : goal.decreases-branch
decreases-branch g l = 128 * l.room + 62

abbrev pub decreases-group : goal.decreases-group
decreases-group g l = 128 * l.room + 62

abbrev pub decreases-loop_command : goal.decreases-loop_command
decreases-loop_command g l = 128 * l.room + 62

abbrev pub decreases-otherwise : goal.decreases-otherwise
decreases-otherwise g l = 128 * l.room + 62

abbrev pub decreases-one_case : goal.decreases-one_case
decreases-one_case g l = 128 * l.room + 62

abbrev pub decreases-elifs : goal.decreases-elifs
decreases-elifs g l = 128 * l.room + 66

abbrev pub decreases-cases : goal.decreases-cases
decreases-cases g l = 128 * l.room + 66

abbrev pub decreases-if_command : goal.decreases-if_command
decreases-if_command g l = 128 * l.room + 68

abbrev pub decreases-for_command : goal.decreases-for_command
decreases-for_command g l = 128 * l.room + 68

abbrev pub decreases-case_command : goal.decreases-case_command
decreases-case_command g l = 128 * l.room + 68

abbrev pub decreases-form : goal.decreases-form
decreases-form g l = 128 * l.room + 70

-- ---- loops

abbrev pub invariant-construct-ordinary : goal.invariant-construct-ordinary
invariant-construct-ordinary g l =
    record {
      rest :
          Rests l.fn.self
          ((level l.room).construct l.mode (l.fn.self.origin + l.opener) (map view_subst l.fn.substs.items))
          (at_place l.fn.self)
          (contents (level (l.room - 1)) l.mode (l.fn.self.origin + l.opener) (map view_subst l.substs.items))
          (at_place l.self) l.self;
      after_opener : l.opener ≤ here_of l.self;
      substs : l.substs ≡ l.fn.substs;
    }

abbrev pub decreases-construct-ordinary : goal.decreases-construct-ordinary
decreases-construct-ordinary g l = length (text_of l.self) - here_of l.self

abbrev pub invariant-contents-pieces : goal.invariant-contents-pieces
invariant-contents-pieces g l =
    record {
      rest :
          Rests l.fn.self (many (a_piece (level l.room) l.mode (l.fn.self.origin + l.opener))
          (word_so_far 0 (map view_subst l.fn.substs.items))) (at_place l.fn.self)
          (many (a_piece (level l.room) l.mode (l.fn.self.origin + l.opener))
          (word_so_far l.nested (map view_subst l.substs.items))) (at_place l.self) l.self;
      nested : l.nested ≤ here_of l.self;
      after_opener : l.opener ≤ here_of l.self;
    }

abbrev pub decreases-contents-pieces : goal.decreases-contents-pieces
decreases-contents-pieces g l = length (text_of l.self) - here_of l.self

abbrev pub invariant-items-turns : goal.invariant-items-turns
invariant-items-turns g l =
    Rests l.fn.self (many (item_turn (level l.room))
    (items_so_far (map view_item l.fn.items.items) l.fn.position l.fn.self.next)) (at_token l.fn.self)
    (many (item_turn (level l.room)) (items_so_far (map view_item l.items.items) l.position l.self.next))
    (at_token l.self) l.self

abbrev pub decreases-items-turns : goal.decreases-items-turns
decreases-items-turns g l = length (text_of l.self) - start_of l.self

abbrev pub invariant-words-turns : goal.invariant-words-turns
invariant-words-turns g l =
    Rests l.fn.self (many (word_turn (level l.room)) (items_so_far [] Suffix l.fn.self.next)) (at_token l.fn.self)
    (many (word_turn (level l.room)) (items_so_far (map view_item l.words.items) Suffix l.self.next))
    (at_token l.self) l.self

abbrev pub decreases-words-turns : goal.decreases-words-turns
decreases-words-turns g l = length (text_of l.self) - start_of l.self

abbrev pub invariant-redirects-turns : goal.invariant-redirects-turns
invariant-redirects-turns g l =
    Rests l.fn.self (many (redirect_turn (level l.room)) (items_so_far [] AsCommand l.fn.self.next))
    (at_token l.fn.self)
    (many (redirect_turn (level l.room)) (items_so_far (map view_item l.redirects.items) AsCommand l.self.next))
    (at_token l.self) l.self

abbrev pub decreases-redirects-turns : goal.decreases-redirects-turns
decreases-redirects-turns g l = length (text_of l.self) - start_of l.self

abbrev pub invariant-pipes-turns : goal.invariant-pipes-turns
invariant-pipes-turns g l =
    Rests l.fn.self (many (pipe_turn (level l.room)) (pipes_so_far [] l.fn.self.next)) (at_token l.fn.self)
    (many (pipe_turn (level l.room)) (pipes_so_far (map view_pipeline_part l.parts.items) l.self.next))
    (at_token l.self) l.self

abbrev pub decreases-pipes-turns : goal.decreases-pipes-turns
decreases-pipes-turns g l = length (text_of l.self) - start_of l.self

abbrev pub invariant-joined_pipelines-turns : goal.invariant-joined_pipelines-turns
invariant-joined_pipelines-turns g l =
    Rests l.fn.self (many (and_or_turn (level l.room)) (and_or_so_far [] l.fn.self.next)) (at_token l.fn.self)
    (many (and_or_turn (level l.room)) (and_or_so_far (map view_and_or_part l.parts.items) l.self.next))
    (at_token l.self) l.self

abbrev pub decreases-joined_pipelines-turns : goal.decreases-joined_pipelines-turns
decreases-joined_pipelines-turns g l = length (text_of l.self) - start_of l.self

abbrev pub invariant-entries-turns : goal.invariant-entries-turns
invariant-entries-turns g l =
    Rests l.fn.self (many (entry_turn (level l.room)) (list_so_far (view_listed l.fn.listed) l.fn.self.next))
    (at_token l.fn.self) (many (entry_turn (level l.room)) (list_so_far (view_listed l.listed) l.self.next))
    (at_token l.self) l.self

abbrev pub decreases-entries-turns : goal.decreases-entries-turns
decreases-entries-turns g l = length (text_of l.self) - start_of l.self

abbrev pub invariant-list_lines-turns : goal.invariant-list_lines-turns
invariant-list_lines-turns g l =
    Rests l.fn.self (many (list_turn (level l.room)) (list_so_far (view_listed l.fn.listed) l.fn.self.next))
    (at_token l.fn.self) (many (list_turn (level l.room)) (list_so_far (view_listed l.listed) l.self.next))
    (at_token l.self) l.self

abbrev pub decreases-list_lines-turns : goal.decreases-list_lines-turns
decreases-list_lines-turns g l = length (text_of l.self) - start_of l.self

abbrev pub invariant-elifs-turns : goal.invariant-elifs-turns
invariant-elifs-turns g l =
    Rests l.fn.self (many (elif_turn (level l.room)) (branches_so_far [] l.fn.self.next)) (at_token l.fn.self)
    (many (elif_turn (level l.room)) (branches_so_far (map view_branch l.branches.items) l.self.next))
    (at_token l.self) l.self

abbrev pub decreases-elifs-turns : goal.decreases-elifs-turns
decreases-elifs-turns g l = length (text_of l.self) - start_of l.self

abbrev pub invariant-more_patterns-turns : goal.invariant-more_patterns-turns
invariant-more_patterns-turns g l =
    Rests l.fn.self (many (pattern_turn (level l.room))
    (patterns_so_far (map view_word l.fn.patterns.items) l.fn.self.next))
    (at_token l.fn.self) (many (pattern_turn (level l.room))
    (patterns_so_far (map view_word l.patterns.items) l.self.next)) (at_token l.self) l.self

abbrev pub decreases-more_patterns-turns : goal.decreases-more_patterns-turns
decreases-more_patterns-turns g l = length (text_of l.self) - start_of l.self

abbrev pub invariant-cases-turns : goal.invariant-cases-turns
invariant-cases-turns g l =
    Rests l.fn.self (many (case_turn (level l.room)) (view_cases l.fn.cases l.fn.self.next)) (at_token l.fn.self)
    (many (case_turn (level l.room)) (view_cases l.cases l.self.next)) (at_token l.self) l.self

abbrev pub decreases-cases-turns : goal.decreases-cases-turns
decreases-cases-turns g l = length (text_of l.self) - start_of l.self
