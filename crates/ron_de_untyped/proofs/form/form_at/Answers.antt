use Rattle.std.proofs.Common.{refl}
use Rattle.ron_de_untyped.proofs.CountLemmas.{looks_here}
use Rattle.ron_de_untyped.proofs.form.form_at.Goals as goal

pub returns-in_default-clause-turns : goal.returns-in_default-clause-turns
returns-in_default-clause-turns c = looks_here c.args.cursor.now c.args.cursor.now refl

pub returns-in-39-clause-turns : goal.returns-in-39-clause-turns
returns-in-39-clause-turns c = looks_here c.args.cursor.now c.args.cursor.now refl

pub returns-in-34-clause-turns : goal.returns-in-34-clause-turns
returns-in-34-clause-turns c = looks_here c.args.cursor.now c.args.cursor.now refl

pub returns-in-91-clause-turns : goal.returns-in-91-clause-turns
returns-in-91-clause-turns c = looks_here c.args.cursor.now c.args.cursor.now refl

pub returns-in-123-clause-turns : goal.returns-in-123-clause-turns
returns-in-123-clause-turns c = looks_here c.args.cursor.now c.args.cursor.now refl

pub returns-in-40-clause-turns : goal.returns-in-40-clause-turns
returns-in-40-clause-turns c = looks_here c.args.cursor.now c.args.cursor.now refl

pub returns-in_default-first-4-clause-turns : goal.returns-in_default-first-4-clause-turns
returns-in_default-first-4-clause-turns c = looks_here c.args.cursor.now c.args.cursor.now refl

pub returns-in_default-first-5-clause-turns : goal.returns-in_default-first-5-clause-turns
returns-in_default-first-5-clause-turns c = looks_here c.args.cursor.now c.args.cursor.now refl

pub returns-in_default-first-clause-turns : goal.returns-in_default-first-clause-turns
returns-in_default-first-clause-turns c = looks_here c.args.cursor.now c.begins_with.new.self c.begins_with.ensures.place
