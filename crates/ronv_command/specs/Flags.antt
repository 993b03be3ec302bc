-- The words behind `fmt`, and the layout that they ask for.
use Rattle.std.specs.Prelude.{◌&&◌, ◌||◌, ℕ, nat_le, Bool, true, false, not, if◌then◌else◌, bytes_eq, List, [], ◌∷◌, min, codes, Option, Some, None}
use Rattle.std.specs.Char.{is_ascii_digit}
use Rattle.std.specs.List.{list_all}
use Rattle.std.specs.Str.Parse.{digits_value}
use Rattle.ron.specs.Extensions.{no_extensions}
use Rattle.ron.specs.Config.{Config, default_config, times}
use Rattle.ronv_command.specs.declared.flags.Flags.{Flags}

-- the bytes of a word
abbrev pub Word : Type 0
Word = List ℕ

-- one or more ASCII digits, the number that they write, and that is at most so much
abbrev pub number_up_to : ℕ → Word → Option ℕ
number_up_to most [] = None
number_up_to most (c ∷ w) = if list_all is_ascii_digit (c ∷ w) && nat_le (digits_value 10 (c ∷ w)) most then Some (digits_value 10 (c ∷ w)) else None

abbrev pub no_flags : Flags
no_flags = record {
  depth = None;
  indent = None;
  compact_arrays = false;
  compact_maps = false;
  suffixes = false;
  enumerate = false;
  raw_strings = false;
  unwrap_variants = false;
}

-- a flag is given once
abbrev pub once : Bool → Flags → Option Flags
once is_given flags = if is_given then None else Some flags

-- and one with a number, where there is one
abbrev pub once_with : Option ℕ → Option ℕ → (ℕ → Flags) → Option Flags
once_with None (Some n) flags = Some (flags n)
once_with given number flags = None

-- flags, and one that stands alone
abbrev pub with_switch : Flags → Word → Option Flags
with_switch f w =
    if bytes_eq w (codes "--compact-arrays") then once f.compact_arrays (record f { compact_arrays = true }) else
    if bytes_eq w (codes "--compact-maps") then once f.compact_maps (record f { compact_maps = true }) else
    if bytes_eq w (codes "--suffixes") then once f.suffixes (record f { suffixes = true }) else
    if bytes_eq w (codes "--enumerate") then once f.enumerate (record f { enumerate = true }) else
    if bytes_eq w (codes "--raw-strings") then once f.raw_strings (record f { raw_strings = true }) else
    if bytes_eq w (codes "--unwrap-variants") then once f.unwrap_variants (record f { unwrap_variants = true }) else
    None

abbrev pub takes_number : Word → Bool
takes_number w = bytes_eq w (codes "--depth") || bytes_eq w (codes "--indent")

-- flags, and one that takes the number behind it
abbrev pub with_number : Flags → Word → Word → Option Flags
with_number f w number =
    if bytes_eq w (codes "--depth") then once_with f.depth (number_up_to 1000 number) (λ n. record f { depth = Some n }) else
    once_with f.indent (number_up_to 16 number) (λ n. record f { indent = Some n })

-- flags, and those that the words give, from the first on
abbrev pub flags_behind : Option Flags → List Word → Option Flags
flags_behind None words = None
flags_behind (Some f) [] = Some f
flags_behind (Some f) (w ∷ []) = if takes_number w then None else with_switch f w
flags_behind (Some f) (w ∷ v ∷ words) = if takes_number w then flags_behind (with_number f w v) words else flags_behind (with_switch f w) (v ∷ words)

-- the number given, or else this one
abbrev pub given_or : ℕ → Option ℕ → ℕ
given_or n None = n
given_or n (Some m) = m

-- the default layout as the flags change it
abbrev pub layout_of : Flags → Config
layout_of f = record default_config {
  depth_limit = given_or default_config.depth_limit f.depth;
  indentor = times (min 16 (given_or 4 f.indent)) (codes " ");
  enumerate_arrays = f.enumerate;
  escape_strings = not f.raw_strings;
  compact_arrays = f.compact_arrays;
  compact_maps = f.compact_maps;
  number_suffixes = f.suffixes;
  extensions = record no_extensions { unwrap_variant_newtypes = f.unwrap_variants };
}
