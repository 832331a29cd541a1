use Rattle.std.proofs.Common.{subst, IfOk}
use Rattle.breadth_search.specs.Answers.{AnswersSo}
use Rattle.breadth_search.proofs.breadth.search.Goals as goal

pub returns : goal.returns
returns g c =
    subst (λ h. IfOk c.search.result (λ outcome. AnswersSo g.S.PartialEq.eq (g.G.Graph.leads h) (g.G.Ending.ends h) c.args.from c.args.limit outcome)) c.in_ok-labelling.ensures.graph
    (subst (λ a. IfOk c.search.result (λ outcome. AnswersSo g.S.PartialEq.eq (g.G.Graph.leads c.in_ok-labelling.labelling.graph) (g.G.Ending.ends c.in_ok-labelling.labelling.graph) a c.args.limit outcome)) c.in_ok-labelling.ensures.from
    c.search.ensures.answers)
