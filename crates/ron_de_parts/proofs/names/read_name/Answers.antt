use Rattle.std.proofs.Common.{chars}
use Rattle.ron_de_parts.proofs.NameLemmas.{name_gap}
use Rattle.ron_de_steps.proofs.NearLemmas.{gap_goes}
use Rattle.ron_de_parts.proofs.TurnLemmas.{nears_so, leads_so, gap_leads}
use Rattle.ron_de_parts.proofs.names.read_name.Goals as goal

pub returns-clause-value : goal.returns-clause-value
returns-clause-value c =
    name_gap c.args.context.now.extensions.explicit_struct_names (chars c.args.name.now) c.args.cursor.now.rest c.before_struct.new.cursor.rest
    c.pass_gap.new.cursor.rest c.pass_gap.result c.in_ok-before_struct.ensures.value c.pass_gap.ensures.slash c.pass_gap.ensures.rest c.pass_gap.ensures.fault

pub returns-clause-near : goal.returns-clause-near
returns-clause-near c = nears_so c.args.cursor.now c.before_struct.new.cursor c.pass_gap.new.cursor c.pass_gap.result c.in_ok-before_struct.ensures.near
    (gap_goes c.before_struct.new.cursor c.pass_gap.result c.pass_gap.new.cursor c.pass_gap.ensures.rest)

pub returns-clause-leads : goal.returns-clause-leads
returns-clause-leads c = leads_so c.args.cursor.now c.before_struct.new.cursor c.pass_gap.new.cursor c.pass_gap.result c.in_ok-before_struct.ensures.leads
    (gap_leads c.before_struct.new.cursor c.pass_gap.new.cursor c.pass_gap.result c.pass_gap.ensures.rest)
