-- Its file is that of this name.
use Rattle.program_run.proofs.reels.reel_of.Goals as goal

pub returns-in-File-clause-fault : goal.returns-in-File-clause-fault
returns-in-File-clause-fault g c = rw c.in-File.is (rw c.as_str.ensures.value at c.read_reel.ensures.fault)

pub returns-in-Ringed-clause-fault : goal.returns-in-Ringed-clause-fault
returns-in-Ringed-clause-fault g c =
    rw c.in-Ringed.is (rw c.as_str-in-Ringed.ensures.value at c.read_reel-in-Ringed.ensures.fault)

pub returns-in-New-clause-fault : goal.returns-in-New-clause-fault
returns-in-New-clause-fault g c = rw c.in-New.is (rw c.as_str-in-New.ensures.value at c.new_reel.ensures.fault)

pub returns-in-File-clause-reel : goal.returns-in-File-clause-reel
returns-in-File-clause-reel g c = rw c.in-File.is (rw c.as_str.ensures.value at c.read_reel.ensures.reel)

pub returns-in-Ringed-clause-reel : goal.returns-in-Ringed-clause-reel
returns-in-Ringed-clause-reel g c =
    rw c.in-Ringed.is (rw c.as_str-in-Ringed.ensures.value at c.read_reel-in-Ringed.ensures.reel)
