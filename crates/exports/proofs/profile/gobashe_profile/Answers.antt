-- `gobashe_profile` meets its contract: the start is refused, or the profile written. Assumes nothing.
use Prim.Native.Nat.{ℕ}
use lib.ListN.{replicate, length-replicate}
use Rattle.exports.proofs.profile.Profiles.{profile_refused, profile_told, profile_renamed}
use Rattle.exports.proofs.profile.gobashe_profile.Goals as goal

pub returns-in-Ok : goal.returns-in-Ok
returns-in-Ok c =
    profile_renamed c.named_by.ensures
    (profile_told c.start_meter.ensures (replicate 4096 0) (length-replicate {A = ℕ} 4096 0)
    c.in-Ok.is c.write_profile.ensures)

pub returns-in-Err : goal.returns-in-Err
returns-in-Err c =
    profile_renamed c.named_by.ensures
    (profile_refused c.start_meter.ensures c.in-Err.is c.into.ensures)
