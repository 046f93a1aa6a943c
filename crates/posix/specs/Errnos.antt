-- Error numbers (errno(3), x86).
use Rattle.std.specs.Prelude.{ℕ}
use Rattle.posix.specs.declared.errno.Errno.{Errno}
use Rattle.posix.specs.declared.errno.Errno.TheVariants.{EPERM, ENOENT, ESRCH, EINTR, EIO, ECHILD, EAGAIN, EACCES, EFAULT, EINVAL, ENOTTY}

abbrev pub errno_number : Errno → ℕ
errno_number EPERM = 1
errno_number ENOENT = 2
errno_number ESRCH = 3
errno_number EINTR = 4
errno_number EIO = 5
errno_number ECHILD = 10
errno_number EAGAIN = 11
errno_number EACCES = 13
errno_number EFAULT = 14
errno_number EINVAL = 22
errno_number ENOTTY = 25
