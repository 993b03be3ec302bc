use Rattle.ron_spec_words.specs.Runs.{is_ended}
use Rattle.ron_spec_grammar.proofs.Attribute.{head_sound, head_exact}
use Rattle.ron_spec_grammar.proofs.AttributeTurns.{start_sound, start_exact}
use Rattle.ron_spec_grammar.proofs.Document.{body_alone, sound, complete, unique, monotone, too_deep, bounded}
use Rattle.ron_spec_grammar.proofs.Place.{formed_parts, of_schema}
use Rattle.ron_spec_grammar.proofs.Depth.{document_within, within_document}
use Rattle.ron_spec_grammar.specs.Attribute.{in_force}
use Rattle.ron_spec_grammar.proofs.documents_are_read_exactly.Goals as goal

pub returns-clause-head : goal.returns-clause-head
returns-clause-head c x text y body = (head_sound x text y body, head_exact x text y body)

pub returns-clause-start : goal.returns-clause-start
returns-clause-start c x text y gap rest = (start_sound x text y gap rest, start_exact x text y gap rest)

pub returns-clause-alone : goal.returns-clause-alone
returns-clause-alone c = body_alone

pub returns-clause-exact : goal.returns-clause-exact
returns-clause-exact c x schema root limit text d = (sound x schema root limit text d, complete x schema root limit text d)

pub returns-clause-unique : goal.returns-clause-unique
returns-clause-unique c = unique

pub returns-clause-monotone : goal.returns-clause-monotone
returns-clause-monotone c = monotone

pub returns-clause-deep : goal.returns-clause-deep
returns-clause-deep c = too_deep

pub returns-clause-bounded : goal.returns-clause-bounded
returns-clause-bounded c x schema root n text d well = bounded x schema root (formed_parts schema root well).0 n text d

pub returns-clause-depth : goal.returns-clause-depth
returns-clause-depth c x schema root limit text d well = (
  λ z. ((limit, z), document_within x schema root text d limit z),
  λ z. within_document x schema root text d (formed_parts schema root well).0 z.0.0 limit z.0.1 z.1,
)

pub returns-clause-of_schema : goal.returns-clause-of_schema
returns-clause-of_schema c x schema root limit text d h z =
    of_schema (is_ended z.head) (in_force x z.announced) schema root root limit z.is_body.before z.is_body.value z.is_body.after d h z.is_body.spelled
