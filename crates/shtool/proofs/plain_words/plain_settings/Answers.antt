use Rattle.std.proofs.Common.{[], map, refl, rules}
use Rattle.shtool.specs.declared.asked.Tool.TheVariants.{Check}
use Rattle.shtool.specs.Words.{IsLayoutFor}
use Rattle.shtool.proofs.PlainWords.{plain_passes, plain_run}
use Rattle.shtool.proofs.plain_words.plain_settings.Goals as goal

pub returns-clause-settings : goal.returns-clause-settings
returns-clause-settings c =
    let plain : IsLayoutFor Check [] c.in_ok-layout.layout = search rules in
    plain_run (map (λ w. w.now) c.args.words.now) c.in_ok-tool.tool c.in_ok-layout.layout c.in_ok-tool.file _ refl
    c.in_ok-tool.ensures plain

pub returns-clause-fails : goal.returns-clause-fails
returns-clause-fails c =
    plain_passes (map (λ w. w.now) c.args.words.now) c.in_ok-tool.tool c.in_ok-tool.file.now c.in_ok-tool.ensures
