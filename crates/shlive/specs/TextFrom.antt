-- The rest of a text.
use Rattle.std.specs.Prelude.{ℕ, List, drop}
use Rattle.shtext.specs.Buffer.{buffer_bytes}
use Rattle.shlive.specs.declared.text_from.TextFrom.{TextFrom}

-- the bytes from its base on
abbrev pub text_from_bytes : TextFrom → List ℕ
text_from_bytes rest = drop rest.base (buffer_bytes rest.text.now)
