use Rattle.std.proofs.Common.{◌+◌, ◌*◌, sym, ap, ◌∙◌, arith}
use Rattle.model.specs.Meaning.{record_at}
use Rattle.chains.specs.Places.{first_source, second_source}
use Rattle.chains.proofs.Linking.{first_below, second_below, at_first, at_second, put_place}
use Rattle.chains.proofs.Chains.add.Goals as goal

pub returns : goal.returns
returns g c =
    let h = g.H.Heap.meaning c.args.heap.now in
    let wf = g.H.Heap.formed c.args.heap.now in
    let r = c.args.number in
    let was = c.args.self.now in
    let one = c.put.new.self in
    let two = c.put-2.new.self in
    let there = c.record-record.ensures ∙ ap (record_at h) c.from.ensures in
    let second = c.second_source.ensures ∙ ap second_source there in
    let first = c.first_source.ensures ∙ ap first_source there in
    let linked = put_place h was.first was.next one.first one.next
    c.second_source.result (2 * r + 1) (2 * r + 2) (omega arith) (omega arith)
    (second ∙ at_second h r) (λ n e. second_below h wf r n (sym second ∙ e))
    c.put.ensures.firsts c.put.ensures.nexts c.requires.linked_above in
    put_place h one.first one.next two.first two.next
    c.first_source.result (2 * r) (2 * r + 1) (omega arith) (omega arith)
    (first ∙ at_first h r) (λ n e. first_below h wf r n (sym first ∙ e))
    c.put-2.ensures.firsts c.put-2.ensures.nexts linked
