use Rattle.std.proofs.Common.{ap, inl}
use Rattle.shlive.specs.Replies.{ok_text}
use Rattle.shlive.proofs.replies.reply_to_splices.Goals as goal

pub returns-clause-tells : goal.returns-clause-tells
returns-clause-tells g c ss hold =
    let made = c.in_default.ensures.made ss hold in (
      ok_text c.script_len.result c.status.result,
      inl (made, (c.status.result, c.status.ensures, ap (λ n. ok_text n c.status.result) c.script_len.ensures.length)),
      c.tell_ok.ensures.bytes,
    )
