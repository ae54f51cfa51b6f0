-- `resume::writing::write_store` meets its contract. The loop's invariant: the first `k` versions of the tape were written into the fresh store.
use Prim.Native.Nat.{◌<◌}
use lib.ListN.{length}
use Rattle.laws.proofs.Logic.{and_i}
use Rattle.room.proofs.Sound.{sound_facts}
use Rattle.tape.specs.Tape.{room_of}
use Rattle.buffer.proofs.Parts.{Bytes}
use Rattle.resume.proofs.Along.{version_inside}
use Rattle.resume.proofs.Reread.{next_ranged}
use Rattle.resume.proofs.VersionsWritten.{sound_ready, versions_written_none, versions_written_all, versions_written_more, next_fits, next_based}
use Rattle.resume.proofs.StoreWritten.{opened_standing, opened_fits, store_whole}
use native.Mathlib.Omega.{arith}
use Rattle.resume.proofs.writing.write_store.Goals as goal

pub open-requires-clause-settings_value : goal.open-requires-clause-settings_value
open-requires-clause-settings_value c = rw c.settings-settings.ensures (sound_facts (room_of c.args.tape.now) c.requires.tape_value.0).settings

pub loop-k-init : goal.loop-k-init
loop-k-init c = let a = c.args in
    let t = a.tape.now in
    versions_written_none t c.coded_length-at.ensures (opened_standing t c.requires.tape_value.0 a.store.now c.requires.capacity_in_bounds (rw c.settings-settings.ensures at c.«open».ensures))

pub read_version-read-requires : goal.read_version-read-requires
read_version-read-requires c = version_inside c.bytes-bytes.result.now _ (λ i. (omega (arith, c.type_inv.bytes i))) c.bytes-bytes.ensures c.loop-k.invariant (omega arith)

pub base_in-requires : goal.base_in-requires
base_in-requires c = let a = c.args in
    let t = a.tape.now in
    let tape = c.bytes-bytes.result.now in
    let bytes : Bytes tape = λ i. (omega (arith, c.type_inv.bytes i)) in
    let ready = sound_ready t c.requires.tape_value.0 c.requires.tape_value.1 in
    let range = and_i _ _ ready.lower ready.ranged in
    let small = ready.small in
    (omega arith, next_ranged tape t bytes c.bytes-bytes.ensures range c.loop-k.invariant (omega arith) c.read_version-read.ensures.0)

pub append_version-requires : goal.append_version-requires
append_version-requires c = let a = c.args in
    let t = a.tape.now in
    let tape = c.bytes-bytes.result.now in
    let bytes : Bytes tape = λ i. (omega (arith, c.type_inv.bytes i)) in
    let ready = sound_ready t c.requires.tape_value.0 c.requires.tape_value.1 in
    let fits = opened_fits t c.requires.tape_value.0 a.store.now c.requires.capacity_in_bounds (rw c.settings-settings.ensures at c.«open».ensures) in
    let range = and_i _ _ ready.lower ready.ranged in
    let small = ready.small in
    let read = c.read_version-read.ensures.0 in
    record {
      n_lt_max_capacity = (omega arith, next_fits tape t bytes c.bytes-bytes.ensures ready c.loop-k.invariant (omega arith) fits);
      node_value = (
        next_ranged tape t bytes c.bytes-bytes.ensures range c.loop-k.invariant (omega arith) read,
        rw c.base_in.ensures (next_based tape t bytes c.bytes-bytes.ensures ready c.loop-k.invariant (omega arith) read),
      );
    }

pub loop-k-preserved : goal.loop-k-preserved
loop-k-preserved c = let read = c.read_version-read.ensures in
    let a = c.args in
    let t = a.tape.now in
    let tape = c.bytes-bytes.result.now in
    let bytes : Bytes tape = λ i. (omega (arith, c.type_inv.bytes i)) in
    let ready = sound_ready t c.requires.tape_value.0 c.requires.tape_value.1 in
    let fits = opened_fits t c.requires.tape_value.0 a.store.now c.requires.capacity_in_bounds (rw c.settings-settings.ensures at c.«open».ensures) in
    let more : c.loop-k.k < length t.versions = omega (arith, c.loop-k-test.true, c.versions-versions.ensures) in
    versions_written_more tape t bytes c.bytes-bytes.ensures ready c.loop-k.invariant more fits read.0
    (rw c.base_in.ensures at c.append_version.ensures) read.1

pub overflow_add-versions : goal.overflow_add-versions
overflow_add-versions c = let small = (sound_ready c.args.tape.now c.requires.tape_value.0 c.requires.tape_value.1).small in
    omega arith

pub returns : goal.returns
returns c = let a = c.args in
    let t = a.tape.now in
    store_whole t c.requires.tape_value.0 a.store.now c.requires.capacity_in_bounds (rw c.settings-settings.ensures at c.«open».ensures)
    (versions_written_all t c.loop-k.invariant (omega arith)) a.header.now c.requires.header_value c.versions-versions.ensures c.put_header.ensures
