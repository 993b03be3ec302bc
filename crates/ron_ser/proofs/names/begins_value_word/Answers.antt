use Rattle.std.proofs.Common.{◌≡◌, Bool, true, false, ◌||◌, nat_eq, refl}
use Rattle.ron_ser.proofs.names.begins_value_word.Goals as goal

-- of equal tests one is enough
once : (t f s n i : Bool) → ((((t || f) || s) || n) || i) ≡ (t || (f || (s || (n || (i || (i || (i || (n || (n || (n || false))))))))))
once true f s n i = refl
once false true s n i = refl
once false false true n i = refl
once false false false true i = refl
once false false false false true = refl
once false false false false false = refl

pub returns : goal.returns
returns c = once (nat_eq c.args.c 116) (nat_eq c.args.c 102) (nat_eq c.args.c 83) (nat_eq c.args.c 78) (nat_eq c.args.c 105)
