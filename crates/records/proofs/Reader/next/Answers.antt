use Rattle.std.proofs.Common.{◌<◌, length, arith, rules}
use Rattle.grids.specs.Numbers.{number}
use Rattle.records.specs.Entries.{entry}
use Rattle.records.proofs.Fronting.{front_whole, front_faulty, read_whole, read_fault}
use Rattle.records.proofs.Reader.next.Goals as goal

pub overflow_sub-self : goal.overflow_sub-self
overflow_sub-self g c =
    let bs = c.self.inside.rest.now in
    let some : 0 < length bs = search rules in
    let p = front_whole g.C.Cell.reading bs some (entry c.in-Ok.record) c.in-Ok.rest.now c.in-Ok.ensures in
    omega (arith, p.shorter)

pub invariant_of-self : goal.invariant_of-self
invariant_of-self g c =
    let bs = c.self.inside.rest.now in
    let some : 0 < length bs = search rules in
    let p = front_whole g.C.Cell.reading bs some (entry c.in-Ok.record) c.in-Ok.rest.now c.in-Ok.ensures in
    omega (arith, p.shorter, c.self.invariant)

pub returns-in-Ok : goal.returns-in-Ok
returns-in-Ok g c =
    let k = g.C.Cell.reading in
    let bs = c.self.inside.rest.now in
    let some : 0 < length bs = search rules in
    let p = front_whole k bs some (entry c.in-Ok.record) c.in-Ok.rest.now c.in-Ok.ensures in
    let r = read_whole k bs c.self.inside.at c.args.self.now c.self.view_is c.in-Ok.rest.now (entry c.in-Ok.record) p in
    record { answer = r.answer_is; rest = r.bytes_is; at = r.at_is }

pub returns-in-Err : goal.returns-in-Err
returns-in-Err g c =
    let k = g.C.Cell.reading in
    let bs = c.self.inside.rest.now in
    let some : 0 < length bs = search rules in
    let p = front_faulty k bs some (number c.in-Err.refusal) c.in-Err.ensures in
    let r = read_fault k bs c.self.inside.at c.args.self.now c.self.view_is (number c.in-Err.refusal) p in
    record { answer = r.answer_is; rest = r.bytes_is; at = r.at_is }
