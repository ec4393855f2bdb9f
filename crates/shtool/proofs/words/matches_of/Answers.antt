use Rattle.std.proofs.Common.{◌≡◌, ◌∙◌, ap, map, subst, true}
use Rattle.std.proofs.lemmas.Result.{IfOk-weaker}
use Rattle.clap.specs.Words.{App, FailsBy, fault_of, is_simple_and_free}
use Rattle.shtool.proofs.FirstWord.{words_same}
use Rattle.shtool.proofs.words.matches_of.Goals as goal

-- the command needs a subcommand
pub returns-clause-some : goal.returns-clause-some
returns-clause-some c =
    let same = words_same c.args.years (map (λ w. w.now) c.args.words.now) in
    let command = c.in_ok-command_for.ensures in
    IfOk-weaker c.try_get_matches_from.result _ _
    (λ m p. (p.parsed (p.from.globals ∙ command.local)).checked.subcommand
    (p.from.needs_subcommand ∙ ap (λ (a : App). a.top.subcommand_required) command.app ∙ same.required))
    c.try_get_matches_from.ensures.parsed

-- it is simple, and its matches are those of clap's model, which are those of the whole command
pub returns-clause-rows : goal.returns-clause-rows
returns-clause-rows c =
    let same = words_same c.args.years (map (λ w. w.now) c.args.words.now) in
    IfOk-weaker c.try_get_matches_from.result _ _ (λ m has. (has same.simple).1 ∙ same.matches)
    (rw c.in_ok-command_for.ensures.app at c.try_get_matches_from.ensures.matches)

pub returns-clause-fails : goal.returns-clause-fails
returns-clause-fails c =
    let words = map (λ w. w.now) c.args.words.now in
    let same = words_same c.args.years words in
    let kinds = subst (λ a. is_simple_and_free a ≡ true → FailsBy (fault_of a words) c.try_get_matches_from.result)
    c.in_ok-command_for.ensures.app c.try_get_matches_from.ensures.kinds in
    subst (λ k. FailsBy k c.try_get_matches_from.result) same.faults (kinds same.free)
