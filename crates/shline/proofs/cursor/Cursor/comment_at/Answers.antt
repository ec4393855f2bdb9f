use Rattle.std.proofs.Common.{◌≡◌, ◌∙◌, true, sym, arith}
use Rattle.shgrammar.specs.Characters.{number_sign}
use Rattle.shgrammar.specs.Standing.{raw_stands}
use Rattle.shline.specs.Clauses.{start_of, text_of}
use Rattle.shline.proofs.Comments.{comment_begins}
use Rattle.shline.proofs.cursor.Cursor.comment_at.Goals as goal

pub before_blanks-requires : goal.before_blanks-requires
before_blanks-requires g c =
    let self = c.args.self.now in
    let is : raw_stands (text_of self) (start_of self) number_sign ≡ true = sym c.raw_stands.ensures.value
    ∙ c.if-not-raw_stands.false in
    let begins = comment_begins (text_of self) (start_of self) is in
    let found = c.find-next_newline.ensures in
    (omega arith, (begins.0, omega (arith, begins.1, found.0), found.1.1))
