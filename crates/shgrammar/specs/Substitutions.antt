-- Command substitutions (XCU 2.6.3).
use Rattle.std.specs.Prelude.{ℕ, false, List as Row}
use Rattle.shgrammar.specs.declared.fault.FaultKind.TheVariants.{UnclosedSubst}
use Rattle.shgrammar.specs.declared.token.Closing.TheVariants as closings
use Rattle.shgrammar.specs.declared.token.Position.TheVariants.{Command}
use Rattle.shast.specs.Bodies.{filled}
use Rattle.shast.specs.Tree.{Entries, ASubst, subst, entries_of}
use Rattle.shgrammar.specs.Sights.{here, one_byte}
use Rattle.shgrammar.specs.Form.{Form, give, see, move, push, ends_as, many, a_level, in_substitution, ◌>>=◌, ◌>>◌}
use Rattle.shgrammar.specs.Words.{Inner}
use Rattle.shgrammar.specs.Commands.{next_token, nothing_waits, pick, unexpected}
use Rattle.shgrammar.specs.Lists.{list_so_far, none_listed, list_turn}
use Rattle.shgrammar.specs.Compounds.{is_closing}

-- what stands in a substitution, and its `)`: a list, or newlines and comments alone
unfoldable pub substitution_list : Inner → Form Entries
substitution_list inner =
    next_token Command >>= λ n.
    many (list_turn inner) (list_so_far (none_listed false) n) >>= λ l.
    pick (is_closing closings.Paren l.next.token) (nothing_waits >> move one_byte >> give (entries_of l.list.entries))
    (unexpected inner l.next)

-- The substitution whose `$` stands at the offset b, from just after its `(` on, as one more of these. It is
-- not closed where the text ends in it. Its here-documents are its own.
unfoldable pub one_substitution : Inner → ℕ → Row ASubst → Form (Row ASubst)
one_substitution inner b ss =
    a_level (ends_as UnclosedSubst b (substitution_list inner)) >>= λ es.
    see here >>= λ q.
    push ss (subst (filled es.1 es.0) (record { start = b; «end» = q }))

-- the same, of which less may be kept than of what stands around it
unfoldable pub a_substitution : Inner → ℕ → Row ASubst → Form (Row ASubst)
a_substitution inner b ss = in_substitution (one_substitution inner b ss)
