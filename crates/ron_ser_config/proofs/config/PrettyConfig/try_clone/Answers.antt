use Rattle.std.proofs.Common.{refl}
use Rattle.std.specs.Cow.{cow_str_bytes}
use Rattle.ron_base.specs.Extensions.{bits_of}
use Rattle.ron_ser_config.proofs.ConfigLemmas.{view-copied, number-itself, switch-itself, text-same, meta-same}
use Rattle.ron_ser_config.proofs.config.PrettyConfig.try_clone.Goals as goal

pub returns-clause-view : goal.returns-clause-view
returns-clause-view c =
    view-copied c.args.self.now c.in_ok-clone.field-0 c.in_ok-clone-2.field-0 c.in_ok-clone-3.field-0 c.in_ok-path_meta.path_meta c.in_ok-clone.ensures.cases
    c.in_ok-clone-2.ensures.cases c.in_ok-clone-3.ensures.cases c.in_ok-path_meta.ensures

pub returns-clause-equal : goal.returns-clause-equal
returns-clause-equal c =
    let s = c.args.self.now in
    rw (
      number-itself s.depth_limit,
      text-same (cow_str_bytes c.in_ok-clone.field-0) (cow_str_bytes s.new_line) c.in_ok-clone.ensures.cases,
      text-same (cow_str_bytes c.in_ok-clone-2.field-0) (cow_str_bytes s.indentor) c.in_ok-clone-2.ensures.cases,
      text-same (cow_str_bytes c.in_ok-clone-3.field-0) (cow_str_bytes s.separator) c.in_ok-clone-3.ensures.cases,
      switch-itself s.struct_names,
      switch-itself s.separate_tuple_members,
      switch-itself s.enumerate_arrays,
      number-itself (bits_of s.extensions),
      switch-itself s.compact_arrays,
      switch-itself s.escape_strings,
      switch-itself s.compact_structs,
      switch-itself s.compact_maps,
      switch-itself s.number_suffixes,
      meta-same c.in_ok-path_meta.path_meta s.path_meta c.in_ok-path_meta.ensures,
      switch-itself s.compact_ranges,
    ) refl
