-- The room that is left deeper down, and further on: for both readers.
use Rattle.std.proofs.Common.{◌≡◌, ℕ, zero, suc, ◌+◌, ◌-◌, ◌≤◌, Option, Some, None, ap, refl, ◌∙◌, arith}
use Rattle.ron_base.specs.Limit.{one_deeper}
use Rattle.ron_de_steps.specs.Room.{IsRoom}

pub room_less : (limit : Option ℕ) (m n room : ℕ) → IsRoom limit n room → m ≤ n → IsRoom limit m room
room_less None m n room h le = omega (arith, h, le)
room_less (Some levels) m n room h le = h

pub record RoomBelow (inner : Option ℕ) (m room : ℕ) : Type 0 where
  pub left : ℕ
  pub is : room ≡ suc left
  pub is_room : IsRoom inner m left

pub room_below : (limit inner : Option ℕ) (m n room : ℕ) → one_deeper limit ≡ Some inner → IsRoom limit n room → m + 1 ≤ n → RoomBelow inner m room
room_below None None m n room e h le = record { left = room - 1; is = omega (arith, h, le); is_room = omega (arith, h, le) }
room_below None (Some levels) m n room e h le = absurd (cc)
room_below (Some zero) inner m n room e h le = absurd (cc)
room_below (Some (suc levels)) None m n room e h le = absurd (cc)
room_below (Some (suc levels)) (Some left) m n room e h le = let same : levels ≡ left = cc in record { left = left; is = h ∙ ap suc same; is_room = refl }

pub room_ended : (limit : Option ℕ) (n room : ℕ) → one_deeper limit ≡ None → IsRoom limit n room → room ≡ 0
room_ended None n room e h = absurd (cc)
room_ended (Some zero) n room e h = h
room_ended (Some (suc levels)) n room e h = absurd (cc)

-- there is a room
pub some_room : (limit : Option ℕ) (enough : ℕ) → (room : ℕ) × IsRoom limit enough room
some_room None enough = (enough, omega arith)
some_room (Some levels) enough = (levels, refl)
