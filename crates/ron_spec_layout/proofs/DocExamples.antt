-- Worked texts with doc comments, by computing; and that a law on configurations needs what it asks of their texts.
use Rattle.std.proofs.Common.{◌≡◌, true, false, List, [], ◌∷◌, pos, neg_ℤ, codes, refl}
use Rattle.ron_spec_words.specs.Characters.{Text}
use Rattle.ron_spec_words.specs.Reader.{bad}
use Rattle.ron_base.specs.Extensions.{no_extensions}
use Rattle.ron_value_number.specs.declared.width.Width.TheVariants.{I32}
use Rattle.ron_spec_grammar.specs.Data.{Data, int_of, some_of, list_of, map_of, newtype_of, struct_of, struct_variant_of, no_datas, data_and, no_pairs}
use Rattle.ron_spec_grammar.specs.Data.{pair_and, no_fields, field_and}
use Rattle.ron_spec_grammar.specs.Schema.{Shape, int, struct, only, field}
use Rattle.ron_spec_grammar.specs.Document.{Answer, ok, err, answer_document}
use Rattle.ron_spec_grammar.proofs.Computing.{reading}
use Rattle.ron_spec_layout.specs.Config.{Docs, no_docs, doc_and, Config, default_config, blank, ends_lines}
use Rattle.ron_spec_layout.specs.Docs.{is_documented}
use Rattle.ron_spec_layout.proofs.Computing.{laying}
use Rattle.ron_spec_layout.proofs.ConfigExamples.{written, i32, point}

-- a doc of the field x
abbrev of_x : Text → Docs
of_x doc = doc_and (codes "x") doc no_docs no_docs

abbrev with : Docs → Config
with docs = record default_config { docs = docs }

-- ---- lines

one_line : written (with (of_x (codes "first"))) point ≡ codes "(\n    /// first\n    x: 3,\n    y: -4,\n)"
unfolding laying
one_line = refl

two_lines : written (with (of_x (codes "two\nlines"))) point ≡ codes "(\n    /// two\n    /// lines\n    x: 3,\n    y: -4,\n)"
unfolding laying
two_lines = refl

an_empty_line : written (with (of_x (codes "two\n\nlines"))) point ≡ codes "(\n    /// two\n    /// \n    /// lines\n    x: 3,\n    y: -4,\n)"
unfolding laying
an_empty_line = refl

ended_line : written (with (of_x (codes "first\n"))) point ≡ codes "(\n    /// first\n    x: 3,\n    y: -4,\n)"
unfolding laying
ended_line = refl

-- a carriage return before a line feed belongs to the line's end
line_ended_by_two : written (with (of_x (codes "first\r\nsecond"))) point ≡ codes "(\n    /// first\n    /// second\n    x: 3,\n    y: -4,\n)"
unfolding laying
line_ended_by_two = refl

-- and at the end of a doc to its last line
carriage_return_at_the_end : written (with (of_x (codes "first\r"))) point ≡ codes "(\n    /// first\r\n    x: 3,\n    y: -4,\n)"
unfolding laying
carriage_return_at_the_end = refl

no_line : written (with (of_x (codes ""))) point ≡ codes "(\n    x: 3,\n    y: -4,\n)"
unfolding laying
no_line = refl

-- ---- where they stand

compact_structs_have_none : written (record (with (of_x (codes "first"))) { compact_structs = true }) point ≡ codes "(x: 3, y: -4)"
unfolding laying
compact_structs_have_none = refl

of_a_variant : written (with (of_x (codes "d"))) (struct_variant_of (codes "E") (codes "V") (field_and (codes "x") (i32 1) no_fields))
    ≡ codes "V(\n    /// d\n    x: 1,\n)"
unfolding laying
of_a_variant = refl

-- docs of a field p, and of x in it
abbrev path : Config
path = with (doc_and (codes "p") [] (of_x (codes "in")) no_docs)

abbrev inner : Data
inner = struct_of (codes "Point") (field_and (codes "x") (i32 1) (field_and (codes "y") (i32 2) no_fields))

abbrev outer : Data → Data
outer d = struct_of (codes "Outer") (field_and (codes "p") d no_fields)

by_path : written path (outer inner) ≡ codes "(\n    p: (\n        /// in\n        x: 1,\n        y: 2,\n    ),\n)"
unfolding laying
by_path = refl

through_newtype : written path (outer (newtype_of (codes "N") inner)) ≡ codes "(\n    p: ((\n        /// in\n        x: 1,\n        y: 2,\n    )),\n)"
unfolding laying
through_newtype = refl

through_list : written path (outer (list_of (data_and inner no_datas)))
    ≡ codes "(\n    p: [\n        (\n            /// in\n            x: 1,\n            y: 2,\n        ),\n    ],\n)"
unfolding laying
through_list = refl

-- past the limit they keep the new line and get no indentation
past_the_limit : written (record path { depth_limit = 2 }) (outer (map_of (pair_and (some_of inner) inner no_pairs)))
    ≡ codes "(\n    p: {\n        Some((/// in\nx: 1, y: 2)): (/// in\nx: 1, y: 2),\n    },\n)"
unfolding laying
past_the_limit = refl

in_a_field : is_documented path path.docs (outer inner) ≡ true
in_a_field = refl

not_at_the_root : is_documented path path.docs inner ≡ false
not_at_the_root = refl

-- ---- what the law asks

abbrev points : List Shape
points = struct (codes "Point") (only (field (codes "x") 1 ∷ field (codes "y") 1 ∷ [])) ∷ int I32 ∷ []

abbrev reads : Text → Answer
reads text = answer_document no_extensions points 0 9 text

read_back : reads (written (with (of_x (codes "first"))) point) ≡ ok point
unfolding laying reading
read_back = refl

-- a new line that ends no comment
abbrev on_a_line : Config
on_a_line = record (with (of_x (codes "first"))) { new_line = codes " " }

doc_on_a_line : written on_a_line point ≡ codes "(     /// first     x: 3,     y: -4, )"
unfolding laying
doc_on_a_line = refl

is_blank_there : blank on_a_line ≡ true
is_blank_there = refl

ends_no_line : ends_lines on_a_line ≡ false
ends_no_line = refl

not_read : reads (written on_a_line point) ≡ err bad
unfolding laying reading
not_read = refl

-- without a doc it is read back all the same
read_without_doc : reads (written (record on_a_line { docs = no_docs }) point) ≡ ok point
unfolding laying reading
read_without_doc = refl

-- a separator that is not blank
abbrev negated : Config
negated = record default_config { separator = codes "-" }

abbrev positive : Data
positive = struct_of (codes "Point") (field_and (codes "x") (i32 3) (field_and (codes "y") (i32 4) no_fields))

negated_text : written negated positive ≡ codes "(\n    x:-3,\n    y:-4,\n)"
unfolding laying
negated_text = refl

not_blank : blank negated ≡ false
not_blank = refl

other_data : reads (written negated positive)
    ≡ ok (struct_of (codes "Point") (field_and (codes "x") (int_of I32 (neg_ℤ (pos 3))) (field_and (codes "y") (int_of I32 (neg_ℤ (pos 4))) no_fields)))
unfolding laying reading
other_data = refl
