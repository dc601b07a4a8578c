-- `Size::new` meets its contract: each return names the first axis that is out of its limits, or makes the size.
-- Assumes nothing.
use Rattle.block.proofs.Sizes.{too_short, too_long, in_limits, first_bad, second_bad, third_bad, none_bad}
use Rattle.block.proofs.Size.new.Goals as goal

pub returns-then-nx-lt-SHORTEST : goal.returns-then-nx-lt-SHORTEST
returns-then-nx-lt-SHORTEST c = first_bad _ _ _ (too_short _ c.if-nx-lt-SHORTEST.true)

pub returns-then-nx-gt-LONGEST : goal.returns-then-nx-gt-LONGEST
returns-then-nx-gt-LONGEST c = first_bad _ _ _ (too_long _ c.if-nx-lt-SHORTEST.false c.if-nx-gt-LONGEST.true)

pub returns-then-ny-lt-SHORTEST : goal.returns-then-ny-lt-SHORTEST
returns-then-ny-lt-SHORTEST c = second_bad _ _ _ (in_limits _ c.if-nx-lt-SHORTEST.false c.if-nx-gt-LONGEST.false) (too_short _ c.if-ny-lt-SHORTEST.true)

pub returns-then-ny-gt-LONGEST : goal.returns-then-ny-gt-LONGEST
returns-then-ny-gt-LONGEST c =
    second_bad _ _ _ (in_limits _ c.if-nx-lt-SHORTEST.false c.if-nx-gt-LONGEST.false)
    (too_long _ c.if-ny-lt-SHORTEST.false c.if-ny-gt-LONGEST.true)

pub returns-then-nz-lt-SHORTEST : goal.returns-then-nz-lt-SHORTEST
returns-then-nz-lt-SHORTEST c =
    third_bad _ _ _ (in_limits _ c.if-nx-lt-SHORTEST.false c.if-nx-gt-LONGEST.false)
    (in_limits _ c.if-ny-lt-SHORTEST.false c.if-ny-gt-LONGEST.false)
    (too_short _ c.if-nz-lt-SHORTEST.true)

pub returns-then-nz-gt-LONGEST : goal.returns-then-nz-gt-LONGEST
returns-then-nz-gt-LONGEST c =
    third_bad _ _ _ (in_limits _ c.if-nx-lt-SHORTEST.false c.if-nx-gt-LONGEST.false)
    (in_limits _ c.if-ny-lt-SHORTEST.false c.if-ny-gt-LONGEST.false)
    (too_long _ c.if-nz-lt-SHORTEST.false c.if-nz-gt-LONGEST.true)

pub returns : goal.returns
returns c =
    none_bad _ _ _ (in_limits _ c.if-nx-lt-SHORTEST.false c.if-nx-gt-LONGEST.false)
    (in_limits _ c.if-ny-lt-SHORTEST.false c.if-ny-gt-LONGEST.false)
    (in_limits _ c.if-nz-lt-SHORTEST.false c.if-nz-gt-LONGEST.false)
