use Rattle.shline.proofs.cursor.Cursor.close_level.Goals as goal

pub invariant_of-self-clause-waits : goal.invariant_of-self-clause-waits
invariant_of-self-clause-waits g c = rw c.replace.ensures.after c.requires
