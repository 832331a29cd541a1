use Rattle.stream_time.proofs.Compiled.{built_parts}
use Rattle.stream_time.proofs.laws.patterns_have_three_parts.Goals as goal

pub returns : goal.returns
returns c book checked target built is islands are =
    built_parts book target built islands (c.plans_construct.ensures book checked target) (λ plan is_plan. c.plans_hit_where_islands_are.ensures book checked target plan is_plan islands are)
    c.chosen_times_are_valid.ensures c.streams_are_one_lane.ensures is
