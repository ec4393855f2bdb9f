-- the laws of forms: turns, the one outcome of each form, what comes where another comes, what holds of
-- whatever it gives, levels
pub mod Turns
pub mod OneOutcome
pub mod Each
pub mod Holds
pub mod Levels
-- bytes: continuations, stretches, places, and what is ordinary in a mode
pub mod Stretches
pub mod Runs
pub mod Places
pub mod Unbroken
pub mod PlainBytes
pub mod PlainTable
-- tokens and comments: what a token shows, which one a row hands on
pub mod Shown
pub mod TokensShown
pub mod Remarks
-- what is read of two texts that have the same bytes up to a newline or a limit
pub mod Ahead
pub mod Asked
pub mod SameBytes
pub mod NoFurther
pub mod SameLine
-- what ends by a limit, or before the `)` of its list: in each text with the same bytes up to there
pub mod EndsByLimit
pub mod PiecesElsewhere
pub mod FormsElsewhere
pub mod JoinsElsewhere
pub mod CommandsElsewhere
pub mod ListsElsewhere
-- a word, what it holds, a name and a comment are read wherever their bytes stand
pub mod LevelsAnywhere
pub mod WordsAnywhere
pub mod ItemsAnywhere
pub mod WordsWithin
pub mod WordsWaiting
pub mod NamesBefore
pub mod CommentsAnywhere
-- here-documents: their delimiters, where their bodies end, and bodies that stand elsewhere
pub mod HereDocuments
pub mod Delimiters
pub mod Unquoted
pub mod PlainDelimiters
pub mod DollarSingles
pub mod BodiesAlone
pub mod BodiesThere
pub mod BodiesAnywhere
pub mod Shifted
-- with its tree and without, a form goes the same way
pub mod Alike
pub mod AlikeCommands
pub mod AlikeLists
-- a line that stands elsewhere is read alike, moved, and its shape is the same
pub mod Moved
pub mod MovedTrees
pub mod MovedBodies
pub mod MovedWords
pub mod MovedCommands
pub mod MovedLists
pub mod MovedSubstitutions
pub mod MovedLine
pub mod ShapeMoved
pub mod LineInPiece
-- what was read names no offset past the place where the reading stands then: spans, nodes and bodies
pub mod UpToLimit
pub mod EachSpan
pub mod SpansOfLists
pub mod SpansInLimit
pub mod NodesInLimit
pub mod BodiesInLimit
-- the tokens passed are those that the shape of the tree spells
pub mod Spelling
pub mod SpelledCommands
pub mod SpelledLists
-- the list that was read is in normal form
pub mod NormalForm
-- from lines to scripts, the first fault, and what the public contracts say
pub mod LineKinds
pub mod Lined
pub mod Scripts
pub mod FirstFault
pub mod Joining
pub mod Passing
pub mod Answered
-- POSIX.1-2017 is as its own definitions have it
pub mod Editions
