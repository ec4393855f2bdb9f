use Rattle.std.proofs.Common.{◌∙◌, ◌||◌, ◌++◌, Bool, List, [], ◌∷◌, Option, ℕ, drop, sym, ap}
use Rattle.shgrammar.specs.Characters.{dollar_sign, left_brace, left_parenthesis}
use Rattle.shgrammar.specs.HereDocuments.{dollar_left, unquoted}
use Rattle.shgrammar.specs.Standing.{is_byte}
use Rattle.shgrammar.specs.Unquoting.{left_of, view_quoting}
use Rattle.shgrammar.proofs.Unquoted.{dollar_on, dollar_opens}
use Rattle.shgrammar.proofs.delimiter.Unquoting.dollar.Goals as goal

pub returns-then-opens-clause-left : goal.returns-then-opens-clause-left
returns-then-opens-clause-left c =
    let text = c.args.self.now.text.items in
    let word = c.args.word.now in
    let left : Bool → Option (List ℕ) =
    λ (second : Bool). unquoted (view_quoting c.args.self.now.quoting) second (drop c.args.next word) in
    let found = ap (λ (x : Option ℕ). is_byte x left_parenthesis || is_byte x left_brace)
    (sym c.byte_at-following.ensures)
    ∙ sym c.opens.ensures ∙ c.if-opens.true in
    ap (λ (second : Bool). left_of text (dollar_left second (drop c.args.next word) left)) c.if-self.false
    ∙ dollar_opens text word c.args.next left found

pub returns-clause-left : goal.returns-clause-left
returns-clause-left c =
    let text = c.args.self.now.text.items in
    let word = c.args.word.now in
    let left : Bool → Option (List ℕ) =
    λ (second : Bool). unquoted (view_quoting c.args.self.now.quoting) second (drop c.args.next word) in
    let found = ap (λ (x : Option ℕ). is_byte x left_parenthesis || is_byte x left_brace)
    (sym c.byte_at-following.ensures)
    ∙ sym c.opens.ensures ∙ c.if-opens.false in
    let second = sym (c.is_byte-self.ensures
    ∙ ap (λ (x : Option ℕ). is_byte x dollar_sign) c.byte_at-following.ensures) in
    ap (λ (b : Bool). left_of text (dollar_left b (drop c.args.next word) left)) c.if-self.false
    ∙ dollar_on text word c.args.next left found
    ∙ ap (λ (b : Bool). left_of (text ++ dollar_sign ∷ []) (left b)) second
    ∙ ap (λ (t : List ℕ). left_of t (left c.is_byte-self.result)) (sym c.in_ok-push-2.ensures.items)
