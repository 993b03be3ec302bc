-- Sets of the four extensions, their bits, and their names.
use Rattle.std.specs.Prelude.{ℕ, Bool, true, false, not, ◌&&◌, ◌||◌, ◌+◌, ◌*◌, ◌==◌, if◌then◌else◌, List, bytes_eq, codes, Option, Some, None}
use Rattle.std.specs.Int.{bit_at}
use Rattle.std.specs.declared.cmp.Ordering.{Ordering}
use Rattle.std.specs.Ordering.{on, nat_cmp}

-- which of the four a set has
pub record ExtensionSet : Type 0 where
  pub unwrap_newtypes : Bool
  pub implicit_some : Bool
  pub unwrap_variant_newtypes : Bool
  pub explicit_struct_names : Bool

abbrev pub no_extensions : ExtensionSet
no_extensions = record {
  unwrap_newtypes = false;
  implicit_some = false;
  unwrap_variant_newtypes = false;
  explicit_struct_names = false;
}

-- what either has
abbrev pub union : ExtensionSet → ExtensionSet → ExtensionSet
union a b = record {
  unwrap_newtypes = a.unwrap_newtypes || b.unwrap_newtypes;
  implicit_some = a.implicit_some || b.implicit_some;
  unwrap_variant_newtypes = a.unwrap_variant_newtypes || b.unwrap_variant_newtypes;
  explicit_struct_names = a.explicit_struct_names || b.explicit_struct_names;
}

-- what both have
abbrev pub intersection : ExtensionSet → ExtensionSet → ExtensionSet
intersection a b = record {
  unwrap_newtypes = a.unwrap_newtypes && b.unwrap_newtypes;
  implicit_some = a.implicit_some && b.implicit_some;
  unwrap_variant_newtypes = a.unwrap_variant_newtypes && b.unwrap_variant_newtypes;
  explicit_struct_names = a.explicit_struct_names && b.explicit_struct_names;
}

-- which of the four it does not have
abbrev pub complement : ExtensionSet → ExtensionSet
complement a = record {
  unwrap_newtypes = not a.unwrap_newtypes;
  implicit_some = not a.implicit_some;
  unwrap_variant_newtypes = not a.unwrap_variant_newtypes;
  explicit_struct_names = not a.explicit_struct_names;
}

-- what the first has and the second does not
abbrev pub difference : ExtensionSet → ExtensionSet → ExtensionSet
difference a b = intersection a (complement b)

abbrev pub all_extensions : ExtensionSet
all_extensions = complement no_extensions

-- it has none of the four
abbrev pub is_empty : ExtensionSet → Bool
is_empty a =
    not (a.unwrap_newtypes || (a.implicit_some || (a.unwrap_variant_newtypes || a.explicit_struct_names)))

-- the second has nothing that the first does not
abbrev pub contains : ExtensionSet → ExtensionSet → Bool
contains a b = is_empty (difference b a)

-- a bit's value at its lowest place
abbrev pub bit : Bool → ℕ
bit false = 0
bit true = 1

-- the set as a number, with one bit for each of the four
abbrev pub bits_of : ExtensionSet → ℕ
bits_of a =
    bit a.unwrap_newtypes + 2 * bit a.implicit_some + 4 * bit a.unwrap_variant_newtypes
    + 8 * bit a.explicit_struct_names

-- sets in order: by their bits
abbrev pub extensions_cmp : ExtensionSet → ExtensionSet → Ordering
extensions_cmp = on bits_of nat_cmp

-- the set of a number's four lowest bits
abbrev pub set_of_bits : ℕ → ExtensionSet
set_of_bits n = record {
  unwrap_newtypes = bit_at n 0 == 1;
  implicit_some = bit_at n 1 == 1;
  unwrap_variant_newtypes = bit_at n 2 == 1;
  explicit_struct_names = bit_at n 3 == 1;
}

-- the one extension of a name, if it is one's name
abbrev pub extension_of_name : List ℕ → Option ExtensionSet
extension_of_name name =
    if bytes_eq (codes "unwrap_newtypes") name then Some (record no_extensions { unwrap_newtypes = true })
    else if bytes_eq (codes "implicit_some") name then Some (record no_extensions { implicit_some = true })
    else if bytes_eq (codes "unwrap_variant_newtypes") name then Some (record no_extensions { unwrap_variant_newtypes = true })
    else if bytes_eq (codes "explicit_struct_names") name then Some (record no_extensions { explicit_struct_names = true })
    else None
