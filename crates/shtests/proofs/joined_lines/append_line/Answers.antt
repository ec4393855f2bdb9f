use Rattle.std.proofs.Common.{◌-◌, ◌^◌, arith, subst}
use Rattle.shgrammar.specs.Lines.{EntrySpansWithin}
use Rattle.shread.specs.Answers.{view_kind}
use Rattle.shtests.proofs.joined_lines.append_line.Goals as goal

pub append_at-requires : goal.append_at-requires
append_at-requires c =
    let limit = 2 ^ 64 - 1 - c.args.at in
    (subst (λ kind. EntrySpansWithin limit (view_kind kind)) c.in-Entries.is
    (c.requires.spans limit (omega (arith, c.requires.place)))).0
