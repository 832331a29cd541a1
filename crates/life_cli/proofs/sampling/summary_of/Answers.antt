use Rattle.std.proofs.Common.{rules}
use Rattle.life_cli.proofs.sampling.summary_of.Goals as goal

pub returns : goal.returns
returns c = record {
  plan = c.args.plan.now;
  is_plan = c.requires.plan;
  schedule = c.in_ok-schedule.schedule;
  is_schedule = c.in_ok-schedule.ensures.schedule;
  delay = c.last_delay-delay.result;
  is_last = c.last_delay-delay.ensures c.in_ok-schedule.ensures.schedule;
  written = search rules;
}
