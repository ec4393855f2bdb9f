use Rattle.std.proofs.Common.{◌++◌, ◌∷◌, [], ◌∙◌, ap, sym}
use Rattle.shwindow.proofs.Joined.{joined_at}
use Rattle.shwindow.proofs.held.HeldLines.lines.Goals as goal

pub returns : goal.returns
returns g c =
    let held = c.self.inside in
    c.new.ensures.left ∙ ap (λ hs. hs ++ held.last ∷ []) (sym (joined_at 0 held.blocks.blocks.items)) ∙ c.self.view_is
