pub mod Convolution
