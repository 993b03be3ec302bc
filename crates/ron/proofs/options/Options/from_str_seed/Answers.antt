use Rattle.ron_data_schema.specs.Table.{table_of}
use Rattle.std.proofs.lemmas.Str.{scalars-chars}
use Rattle.std.proofs.Common.{◌≡◌, true, refl}
use Rattle.ron_spec_grammar.specs.Schema.{has_no_cycle}
use Rattle.ron.proofs.ReadLemmas.{no_cycle_in}
use Rattle.ron.proofs.OwnedLemmas.{text_told}
use Rattle.ron.proofs.WholeLemmas.{refuses_deep, is_document, is_only, is_of_schema, is_refused, reads_back}
use Rattle.ron.proofs.options.Options.from_str_seed.Goals as goal

ends : (c : goal.After-read_document) → has_no_cycle (table_of c.args.schema.now).shapes ≡ true
ends c = no_cycle_in (table_of c.args.schema.now) c.args.schema.now.well_formed

pub returns-clause-ok : goal.returns-clause-ok
returns-clause-ok c = is_document _ _ (table_of c.args.schema.now) (ends c) _ _ c.read_document.ensures.errors.answer

pub returns-clause-only : goal.returns-clause-only
returns-clause-only c = is_only _ _ (table_of c.args.schema.now) (ends c) _ (scalars-chars _ c.utf8.s) _ c.read_document.ensures.errors.answer

pub returns-clause-of_schema : goal.returns-clause-of_schema
returns-clause-of_schema c = is_of_schema _ _ (table_of c.args.schema.now) (ends c) _ _ c.args.schema.now.well_formed c.read_document.ensures.errors.answer

pub returns-clause-err : goal.returns-clause-err
returns-clause-err c = is_refused _ _ (table_of c.args.schema.now) (ends c) _ _ c.read_document.ensures.errors.answer

pub returns-clause-deep : goal.returns-clause-deep
returns-clause-deep c = refuses_deep _ (table_of c.args.schema.now) (ends c) _ _ _ c.read_document.ensures.errors.answer

pub returns-clause-reads_back : goal.returns-clause-reads_back
returns-clause-reads_back c = reads_back _ _ (table_of c.args.schema.now) (ends c) _ _ c.args.schema.now.well_formed c.read_document.ensures.errors.answer

pub returns-clause-slices : goal.returns-clause-slices
returns-clause-slices c = c.read_document.ensures.slices refl

pub returns-clause-errors : goal.returns-clause-errors
returns-clause-errors c = text_told _ _ (table_of c.args.schema.now) _ _ _ refl c.read_document.ensures.errors
