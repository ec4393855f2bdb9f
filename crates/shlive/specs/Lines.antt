-- The line of a request, as far as it is kept.
use Rattle.std.specs.Prelude.{◌≡◌, ℕ, ◌<◌, ◌≤◌, ◌∷◌, ◌++◌, [], List, length, take, MatchBool}
use Rattle.shgrammar.specs.Characters.{newline_char}
use Rattle.shlive.specs.Ahead.{Ahead, TakesBytes}
use Rattle.shlive.specs.Requests.{first_line, line_limit, with_text_before}
use Rattle.shlive.specs.declared.lines.RequestLine.{RequestLine}

-- a text without a newline: what follows it goes on with its line
abbrev pub IsInLine : List ℕ → Type 0
IsInLine text = (rest : List ℕ) → first_line (text ++ rest) ≡ with_text_before text (first_line rest)

-- the text is kept, or it is longer than the line of a request
abbrev pub KeepsText : RequestLine → List ℕ → Type 0
KeepsText line text = MatchBool line.over (line_limit < length text)
    ((length text ≤ line_limit) × (length text ≡ line.len) × (take line.len line.bytes ≡ text))

-- a line was taken, and the newline that ended it
abbrev pub TakesLine : Ahead → Ahead → RequestLine → Type 0
TakesLine old new line = (text : List ℕ) × IsInLine text × KeepsText line text
    × TakesBytes old new (text ++ newline_char ∷ [])
