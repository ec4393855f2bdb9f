use Rattle.std.proofs.Common.{◌∙◌, ap, codes}
use Rattle.std.specs.Str.Parse.{ExplainsUnsignedError, HasUnsignedDigitsIfOk, ParsesUnsigned}
use Rattle.clap.specs.Words.{found_of, one_text}
use Rattle.clap.proofs.WalkLemmas.{one_text-rows}
use Rattle.shtool.specs.Words.{indent_in}
use Rattle.shtool.proofs.Options.{indent_read}
use Rattle.shtool.proofs.words.indent_of.Goals as goal

pub returns : goal.returns
returns c =
    c.unwrap_or.ensures
    ∙ indent_read _ (λ t r. ParsesUnsigned 8 10 t r × ExplainsUnsignedError 10 t r × HasUnsignedDigitsIfOk t r)
    (one_text (found_of c.args.matches.now) (codes "indent"))
    c.get_one.result (λ t r gives. gives.0) c.get_one.ensures.none c.get_one.ensures.value
    ∙ ap indent_in (one_text-rows (found_of c.args.matches.now) (codes "indent"))
