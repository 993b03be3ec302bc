use Rattle.ron_data_schema.proofs.TableLemmas.{distinct-view, whole-view, well_formed-from}
use Rattle.ron_data_schema.proofs.schema.Schema.new.Goals as goal

pub returns-then-not-is_in_range : goal.returns-then-not-is_in_range
returns-then-not-is_in_range c = let e = c.is_in_range.ensures in cc

pub returns-in_default : goal.returns-in_default
returns-in_default c = ((let e = c.is_in_range.ensures in cc), rw c.deref-2.ensures.value at (rw c.in_default.is at c.in_ok-longest.ensures))

pub returns-then-not-branch : goal.returns-then-not-branch
returns-then-not-branch c =
    let found = rw c.deref-2.ensures.value at (rw c.in-Some.is at c.in_ok-longest.ensures) in
    ((let e = c.is_in_range.ensures in cc), found.0, (let e = c.in_ok-are_distinct.ensures in let f = distinct-view c.args.shapes.items in cc))

pub returns-then-not-are_whole : goal.returns-then-not-are_whole
returns-then-not-are_whole c =
    let found = rw c.deref-2.ensures.value at (rw c.in-Some.is at c.in_ok-longest.ensures) in (
      (let e = c.is_in_range.ensures in cc),
      found.0,
      (let e = c.in_ok-are_distinct.ensures in let f = distinct-view c.args.shapes.items in cc),
      (let e = c.are_whole.ensures in let f = whole-view c.args.shapes.items in cc),
    )

pub invariant_of-result : goal.invariant_of-result
invariant_of-result c =
    let found = rw c.deref-2.ensures.value at (rw c.in-Some.is at c.in_ok-longest.ensures) in
    record {
      well_formed = well_formed-from c.args.shapes.items c.args.root (let e = c.is_in_range.ensures in cc) found.0 (let e = c.in_ok-are_distinct.ensures in cc)
          (let e = c.are_whole.ensures in cc);
      is_longest = found.1;
    }
