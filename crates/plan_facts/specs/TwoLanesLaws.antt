-- A salvo of two lanes is a construction.
use Rattle.std.proofs.Common.{refl}
use Rattle.plan_facts.specs.TwoLanes.{TwoLanesConstruct}

pub two_lanes_construct : TwoLanesConstruct
two_lanes_construct settings kinds start kind next hand place raw one two a b c s t u advance lane j advance2 lane2 j2 h = record {
  all_may = (
    record { none_waits = refl; elbow_is = refl; sound = h.first_sound },
    (
      record { waits_for = h.first_lane; is_next = (refl, refl); sound = h.sound; hit_is = refl; clear = h.first_clear },
      (
        record { none_waits = refl; elbow_is = refl; sound = h.second_sound },
        (
          record { waits_for = h.second_lane; is_next = (refl, (refl, refl)); sound = h.sound; hit_is = refl; clear = h.second_clear },
          (record { none_waits = refl; elbow_is = refl; sound = h.last_sound }, tt),
        ),
      ),
    ),
  );
  done = record { closed = refl; none_waits = refl; no_hand = refl; built_is = refl };
}
