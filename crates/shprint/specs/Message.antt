-- The line that tells a fault.
use Rattle.std.specs.Prelude.{ℕ, ◌++◌, List, codes, decimal}
use Rattle.shgrammar.specs.declared.fault.Fault.{Fault}
use Rattle.shgrammar.specs.declared.fault.FaultKind.{FaultKind}
use Rattle.shgrammar.specs.declared.fault.FaultKind.TheVariants.{UnclosedSingle, UnclosedDouble, UnclosedBackquote, UnclosedParam, UnclosedArith, BadArithClose, UnclosedSubst, LoneBackslash, UnclosedHere, BadHereWord, Unexpected, UnexpectedEnd, BadForName, BadFunctionName, TooDeep, UnclosedDollarSingle}

-- what is said of a fault of this kind
abbrev pub text_of_kind : FaultKind → List ℕ
text_of_kind UnclosedSingle = codes "unclosed single quote"
text_of_kind UnclosedDouble = codes "unclosed double quote"
text_of_kind UnclosedBackquote = codes "unclosed backquote"
text_of_kind UnclosedParam = codes "unclosed parameter expansion"
text_of_kind UnclosedArith = codes "unclosed arithmetic expansion"
text_of_kind BadArithClose = codes "arithmetic expansion closed by one bracket"
text_of_kind UnclosedSubst = codes "unclosed command substitution"
text_of_kind LoneBackslash = codes "backslash at the end"
text_of_kind UnclosedHere = codes "unclosed here-document"
text_of_kind BadHereWord = codes "here-document word with an expansion"
text_of_kind Unexpected = codes "unexpected token"
text_of_kind UnexpectedEnd = codes "unexpected end"
text_of_kind BadForName = codes "bad name after for"
text_of_kind BadFunctionName = codes "bad function name"
text_of_kind TooDeep = codes "too many open constructs"
text_of_kind UnclosedDollarSingle = codes "unclosed dollar-single quote"

-- NAME:LINE:COL: TEXT, and a newline
abbrev pub message_text : List ℕ → ℕ → ℕ → Fault → List ℕ
message_text name line col fault =
    name ++ codes ":" ++ decimal line ++ codes ":" ++ decimal col ++ codes ": " ++ text_of_kind fault.kind ++ codes "\n"
