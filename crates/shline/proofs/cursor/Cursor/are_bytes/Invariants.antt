use Rattle.std.proofs.Common.{◌≡◌, ◌+◌, bytes_eq, drop}
use Rattle.shgrammar.specs.Form.{raw}
use Rattle.shline.specs.Clauses.{on}
use Rattle.shline.proofs.cursor.Cursor.are_bytes.Given as goal

abbrev pub invariant-bytes : goal.invariant-bytes
invariant-bytes g l =
    let text = drop l.self.base (g.S.Source.bytes l.self.source.now) in
    bytes_eq (raw text (on l.self l.from + l.index) (on l.self l.end)) (drop l.index l.bytes)
    ≡ bytes_eq (raw text (on l.self l.from) (on l.self l.end)) l.bytes
