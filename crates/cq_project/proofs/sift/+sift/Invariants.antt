use Rattle.std.proofs.Common.{◌+◌, ◌*◌, length}
use Rattle.cq_project.proofs.sift.+sift.Given as goal

abbrev pub decreases-sift : goal.decreases-sift
decreases-sift l = 3 * length l.rows.now

abbrev pub decreases-sift_beside : goal.decreases-sift_beside
decreases-sift_beside l = 3 * length l.front.now + 1

abbrev pub decreases-sift_front : goal.decreases-sift_front
decreases-sift_front l = 3 * length l.front.now + 2

abbrev pub decreases-sift_behind : goal.decreases-sift_behind
decreases-sift_behind l = 3 * length l.back.now + 1
