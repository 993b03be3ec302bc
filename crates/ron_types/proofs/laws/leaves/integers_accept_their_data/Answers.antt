use Rattle.ron_value_number.specs.declared.width.Width.TheVariants as width
use Rattle.ron_types.proofs.LeafLaws.{integers}
use Rattle.ron_types.proofs.laws.leaves.integers_accept_their_data.Goals as goal

pub returns : goal.returns
returns c = record {
  signed_8 = integers width.I8;
  signed_16 = integers width.I16;
  signed_32 = integers width.I32;
  signed_64 = integers width.I64;
  signed_128 = integers width.I128;
  unsigned_8 = integers width.U8;
  unsigned_16 = integers width.U16;
  unsigned_32 = integers width.U32;
  unsigned_64 = integers width.U64;
  unsigned_128 = integers width.U128;
}
